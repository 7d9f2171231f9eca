use Rattle.std.specs.Prelude.{◌≡◌, ◌≤◌, List, [], ◌∷◌, ◌++◌, ℕ, zero, suc, ◌+◌, ◌-◌, Bool, length}
use Rattle.std.specs.Prelude.{drop, Option, Some, None, Result, Ok, Err, ok_or, option_and_then}
use Rattle.std.specs.Prelude.{option_map, nat_lt, ◌==◌, ◌&&◌, ◌||◌, if◌then◌else◌}
use Rattle.std.specs.Result.{result_flatten, result_map_both}
use Rattle.byteorder.specs.Endian.{big_number}
pub use Rattle.ipfix_templates.specs.declared.fault.TemplateFault.{TemplateFault}
pub use Rattle.ipfix_templates.specs.declared.fault.TemplateFault.TheVariants.{Malformed, NoMemory}
pub use Rattle.ipfix_templates.specs.declared.fault.TemplateFaultKind.TheVariants.{BadScope, BadTemplateId, Truncated}
use Rattle.ipfix_templates.specs.Template.{Field, Kind, Flow, Options, set_id}
use Rattle.ipfix_templates.specs.declared.event.TemplateEvent.{TemplateEvent}
use Rattle.ipfix_templates.specs.declared.event.TemplateEvent.TheVariants.{Define, Withdraw, WithdrawAll}
pub use Rattle.ipfix_templates.specs.declared.fault.TemplateFaultKind.{TemplateFaultKind}

-- Reading one item after another. `next` takes what came before, and the remaining bytes with their offset. It reads
-- the item at the start of the bytes, and gives it with the bytes after it, or gives a fault. `with_one` adds the item
-- to what came before. The items end at bytes that pass the test `ends`.
module _ {S A F : Type 0} (ends : List ℕ → Bool) (next : S → ℕ → List ℕ → Result (A × List ℕ) F)
    (with_one : S → A → S) where
  -- at most `most` items, or the first fault
  abbrev pub items_by : ℕ → S → ℕ → List ℕ → Result (List A) F
  items_by zero before offset bytes = Ok []
  items_by (suc most) before offset bytes =
      if ends bytes then Ok []
      else result_flatten (result_map_both
      (λ x. result_map_both (λ later. x.0 ∷ later) (λ fault. fault)
      (items_by most (with_one before x.0) (offset + (length bytes - length x.1)) x.1))
      (λ fault. fault) (next before offset bytes))

  -- all items, or the first fault; an item has at least one byte, so there are at most as many as bytes
  abbrev pub items_from : S → ℕ → List ℕ → Result (List A) F
  items_from before offset bytes = items_by (length bytes) before offset bytes

-- Consecutive template records (RFC 7011 sections 3.2 and 3.4).

-- the field specifier at the start, and the bytes after it: the enterprise bit with the element's number, the length,
-- and an enterprise number if the bit is 1
unfoldable pub field_at : List ℕ → Option (Field × List ℕ)
field_at bytes =
    let number = big_number 2 bytes in
    let size = big_number 2 (drop 2 bytes) in
    if nat_lt (length bytes) 4 then None
    else (if nat_lt number 32768
    then Some (record { enterprise = None; number = number; length = size }, drop 4 bytes)
    else (if nat_lt (length bytes) 8 then None
    else Some (
      record {
        enterprise = Some (big_number 4 (drop 4 bytes));
        number = number - 32768;
        length = size;
      },
      drop 8 bytes,
    )))

-- `n` specifiers at the start, and the bytes after them
unfoldable pub fields_at : ℕ → List ℕ → Option (List Field × List ℕ)
fields_at zero bytes = Some ([], bytes)
fields_at (suc n) bytes =
    option_and_then (λ f. option_map (λ fs. (f.0 ∷ fs.0, fs.1)) (fields_at n f.1)) (field_at bytes)

-- the definition that ends with `count` specifiers, and the bytes after it
abbrev pub defined_by : Kind → ℕ → ℕ → ℕ → List ℕ
    → Result (TemplateEvent × List ℕ) TemplateFaultKind
defined_by kind id scopes count bytes =
    ok_or (option_map (λ fs.
    (Define (record { id = id; kind = kind; scope_count = scopes; fields = fs.0 }), fs.1))
    (fields_at count bytes)) Truncated

-- the definition of `count` fields after its ID and field count; in an options template a scope field count comes first
unfoldable pub definition_at : Kind → ℕ → ℕ → List ℕ
    → Result (TemplateEvent × List ℕ) TemplateFaultKind
definition_at Flow id count bytes = defined_by Flow id 0 count bytes
definition_at Options id count bytes =
    let scopes = big_number 2 bytes in
    if nat_lt (length bytes) 2 then Err Truncated
    else (if scopes == 0 || nat_lt count scopes then Err BadScope
    else defined_by Options id scopes count (drop 2 bytes))

-- The template record at the start and the bytes after it, or the first fault of these bytes. A record without fields
-- withdraws the template with its ID, or all of the kind if the ID is that of the set (section 8.1).
unfoldable pub template_record_at : Kind → List ℕ
    → Result (TemplateEvent × List ℕ) TemplateFaultKind
template_record_at kind bytes =
    let id = big_number 2 bytes in
    let count = big_number 2 (drop 2 bytes) in
    if count == 0 && id == set_id kind then Ok (WithdrawAll kind, drop 4 bytes)
    else (if nat_lt id 256 then Err BadTemplateId
    else (if count == 0 then Ok (Withdraw id, drop 4 bytes)
    else definition_at kind id count (drop 4 bytes)))

-- the records of a template set, given the bytes after its header, or the first fault with its offset; fewer bytes than
-- a record has are padding
abbrev pub template_set_reading : Kind → List ℕ
    → Result (List TemplateEvent) (TemplateFaultKind × ℕ)
template_set_reading kind bytes =
    items_from (λ rest. nat_lt (length rest) 4)
    (λ _ offset rest. result_map_both (λ item. item) (λ fault. (fault, offset))
    (template_record_at kind rest)) (λ _ _. tt) (tt {0}) 0 bytes

-- Below: only contracts of parts and proofs use these; no promise of the program rests on them.

-- these items and then those of a reading, unless it is a fault
abbrev pub after_items : {A F : Type 0} → List A → Result (List A) F → Result (List A) F
after_items items reading = result_map_both (λ later. items ++ later) (λ fault. fault) reading

-- what was read of the template record at this offset, or its fault
abbrev pub with_offset : {A : Type 0} → ℕ → Result A TemplateFaultKind
    → Result A (TemplateFaultKind × ℕ)
with_offset offset read = result_map_both (λ item. item) (λ fault. (fault, offset)) read

-- the fault is that of the reading, at most at the limit, or that an allocation failed
abbrev pub IsFaultWithin : {A : Type 0} → ℕ → Result A (TemplateFaultKind × ℕ) → TemplateFault → Type 0
IsFaultWithin limit reading (Malformed kind offset) = (offset ≤ limit) × (reading ≡ Err (kind, offset))
IsFaultWithin limit reading NoMemory = Unit {0}
