-- Reading one item after another, as a loop does.
use Rattle.std.proofs.Common.{◌≡◌, false, ℕ, suc, ◌+◌, ◌-◌, ◌<◌, ◌≤◌, List, [], ◌∷◌, ◌++◌, length, Option, Some, None, refl, ap, append_assoc, arith, zero, drop, Result, Ok, Err, length-drop}
use Rattle.std.specs.Prelude.{nat_lt, ok_or, option_map}
use Rattle.ipfix_templates.specs.Template.{Field, Kind, Flow, Options}
use Rattle.ipfix_templates.specs.Reading.{Truncated, field_at, fields_at, defined_by, definition_at, template_record_at, after_items, with_offset, items_from, TemplateFaultKind}
use Rattle.std.proofs.lemmas.Grind.{common_steps}
use Rattle.std.proofs.lemmas.Bool.{ltb-false, lt-ltb, le-ltb}
use Rattle.byteorder.specs.Endian.{big_number}
use Rattle.ipfix_templates.specs.declared.event.TemplateEvent.{TemplateEvent}
use Rattle.ipfix_templates.specs.declared.event.TemplateEvent.TheVariants.{Define}
use Rattle.ipfix_templates.proofs.Choice.{gave, mapped, some_is, ok_is}
use Rattle.ipfix_templates.proofs.Reading.{at_end, at_item}

-- the fields that were read before, and those that are still to be read
abbrev pub with_front : List Field → Option (List Field × List ℕ) → Option (List Field × List ℕ)
with_front front read = option_map (λ x. (front ++ x.0, x.1)) read

pub regroup : (front : List Field) (f : Field) (read : Option (List Field × List ℕ)) → with_front front (option_map (λ x. (f ∷ x.0, x.1)) read) ≡ with_front (front ++ f ∷ []) read
regroup front f None = refl
regroup front f (Some x) = ap (λ (fs : List Field). Some (fs, x.1)) (simp append_assoc)

-- the fields at the start, from the field there
pub next_field : (count i : ℕ) (bytes : List ℕ) (f : Field) (after : List ℕ) → i < count → field_at bytes ≡ Some (f, after)
    → fields_at (count - i) bytes ≡ option_map (λ fs. (f ∷ fs.0, fs.1)) (fields_at (count - (i + 1)) after)
unfolding fields_at
next_field count i bytes f after lt h = let k : count - i ≡ suc (count - (i + 1)) = omega arith in rw (k, h) refl

pub no_field : (count i : ℕ) (bytes : List ℕ) → i < count → field_at bytes ≡ None → fields_at (count - i) bytes ≡ None
unfolding fields_at
no_field count i bytes lt h = let k : count - i ≡ suc (count - (i + 1)) = omega arith in rw (k, h) refl

pub all_fields : (count i : ℕ) (bytes : List ℕ) → count ≤ i → fields_at (count - i) bytes ≡ Some ([], bytes)
unfolding fields_at
all_fields count i bytes le = let k : count - i ≡ 0 = omega arith in rw k refl

-- ---- the bytes that a record takes

pub field_shorter : (bytes : List ℕ) (x : Field × List ℕ) → field_at bytes ≡ Some x → length x.1 + 4 ≤ length bytes
unfolding field_at
field_shorter bytes x e = let four = length-drop 4 bytes in let eight = length-drop 8 bytes in grind (arith, common_steps)

pub fields_shorter : (n : ℕ) (bytes : List ℕ) (x : List Field × List ℕ) → fields_at n bytes ≡ Some x → length x.1 ≤ length bytes
unfolding fields_at
fields_shorter zero bytes x e = omega (arith, ap (λ (y : List Field × List ℕ). length y.1) (some_is ([], bytes) x e))
fields_shorter (suc n) bytes x e =
    let a = gave (field_at bytes) (λ f. option_map (λ fs. (f.0 ∷ fs.0, fs.1)) (fields_at n f.1)) x e in
    let b = mapped (fields_at n a.0.1) (λ fs. (a.0.0 ∷ fs.0, fs.1)) x a.2 in
    omega (arith, field_shorter bytes a.0 a.1, fields_shorter n a.0.1 b.0 b.1, ap (λ (y : List Field × List ℕ). length y.1) b.2)

defined_shorter : (kind : Kind) (id scopes n : ℕ) (bytes : List ℕ) (x : TemplateEvent × List ℕ) → defined_by kind id scopes n bytes ≡ Ok x → length x.1 ≤ length bytes
defined_shorter kind id scopes n bytes x e =
    elim (fields_at n bytes) as (λ o. fields_at n bytes ≡ o
    → ok_or (option_map (λ fs. (Define (record { id = id; kind = kind; scope_count = scopes; fields = fs.0 }), fs.1)) o) Truncated ≡ Ok x
    → length x.1 ≤ length bytes) [
      | None ↦ λ p q. absurd (cc)
      | Some y ↦ λ p q. omega (arith, fields_shorter n bytes y p, ap (λ (z : TemplateEvent × List ℕ). length z.1) (ok_is _ _ q))
    ] refl e

definition_shorter : (kind : Kind) (id count : ℕ) (bytes : List ℕ) (x : TemplateEvent × List ℕ) → definition_at kind id count bytes ≡ Ok x → length x.1 ≤ length bytes
unfolding definition_at
definition_shorter Flow id count bytes x e = defined_shorter Flow id 0 count bytes x e
definition_shorter Options id count bytes x e =
    let rest = defined_shorter Options id (big_number 2 bytes) count (drop 2 bytes) x in
    let two = length-drop 2 bytes in grind (arith, common_steps)

-- a record takes at least 4 bytes
pub record_shorter : (kind : Kind) (bytes : List ℕ) (x : TemplateEvent × List ℕ) → 4 ≤ length bytes → template_record_at kind bytes ≡ Ok x → length x.1 + 4 ≤ length bytes
unfolding template_record_at
record_shorter kind bytes x long e =
    let defined = definition_shorter kind (big_number 2 bytes) (big_number 2 (drop 2 bytes)) (drop 4 bytes) x in
    let four = length-drop 4 bytes in grind (arith, common_steps)

-- ---- consecutive records

-- the template record at the start of bytes at this offset, and the bytes after it, or its fault
abbrev template_next : Kind → ℕ → List ℕ → Result (TemplateEvent × List ℕ) (TemplateFaultKind × ℕ)
template_next kind offset bytes = with_offset offset (template_record_at kind bytes)

abbrev pub events_from : Kind → ℕ → List ℕ → Result (List TemplateEvent) (TemplateFaultKind × ℕ)
events_from kind offset bytes = items_from (λ rest. nat_lt (length rest) 4) (λ _. template_next kind) (λ _ _. tt) (tt {0}) offset bytes

record_is : (offset : ℕ) (read : Result (TemplateEvent × List ℕ) TemplateFaultKind) (x : TemplateEvent × List ℕ) → with_offset offset read ≡ Ok x → read ≡ Ok x
record_is offset (Ok y) x e = cc
record_is offset (Err fault) x e = absurd (cc)

event_smaller : (kind : Kind) (before : Unit {0}) (offset : ℕ) (bytes : List ℕ) (event : TemplateEvent) (after : List ℕ)
    → nat_lt (length bytes) 4 ≡ false → template_next kind offset bytes ≡ Ok (event, after) → length after < length bytes
event_smaller kind before offset bytes event after long e =
    omega (arith, record_shorter kind bytes (event, after) (ltb-false (length bytes) 4 long) (record_is offset (template_record_at kind bytes) (event, after) e))

module _ (kind : Kind) (whole : Result (List TemplateEvent) (TemplateFaultKind × ℕ)) (events : List TemplateEvent) (offset : ℕ) (rest : List ℕ) (so_far : whole ≡ after_items events (events_from kind offset rest)) where
  pub event_more : (event : TemplateEvent) (after : List ℕ) (later : ℕ) → 4 ≤ length rest → template_record_at kind rest ≡ Ok (event, after) → later ≡ offset + (length rest - length after)
      → whole ≡ after_items (events ++ event ∷ []) (events_from kind later after)
  event_more event after later long read =
      at_item (λ rest. nat_lt (length rest) 4) (λ _. template_next kind) (λ _ _. tt) refl (event_smaller kind) whole events (tt {0}) offset rest so_far event after later (le-ltb (length rest) 4 long) (rw read refl)

  pub events_end : length rest < 4 → whole ≡ Ok events
  events_end few = at_end (λ rest. nat_lt (length rest) 4) (λ _. template_next kind) (λ _ _. tt) refl (event_smaller kind) whole events (tt {0}) offset rest so_far (lt-ltb (length rest) 4 few)
