-- The content of a set, and consecutive sets.
use Rattle.std.proofs.Common.{◌≡◌, ℕ, ◌+◌, ◌<◌, List, [], ◌∷◌, ◌++◌, length, get_or, take, sym, ap, ◌∙◌, ◌-◌, ◌≤◌, true, false, eqb, drop, refl, inl, inr, arith, length-drop, Result, Ok, Err}
use Rattle.std.specs.Prelude.{◌==◌, fold}
use Rattle.std.specs.Result.{result_map_both}
use Rattle.std.proofs.lemmas.Bool.{le-ltb}
use Rattle.std.proofs.lemmas.Bool.Decides.{nat_tests}
use Rattle.std.proofs.lemmas.Grind.{common_steps}
use Rattle.std.proofs.lemmas.List.{take_more, take_all, get_or-take, get_or-drop}
use Rattle.std.proofs.lemmas.List.Sums.{fold-append, sum_by-append, sum_by-cons}
use Rattle.byteorder.specs.Endian.{big_number}
use Rattle.ipfix_templates.specs.Reading.{after_items}
use Rattle.ipfix_templates.specs.declared.event.TemplateEvent.{TemplateEvent}
use Rattle.ipfix_templates.specs.InForce.{InForce, after_event}
use Rattle.ipfix_templates.proofs.Reading.{at_end, at_fault, at_item}
use Rattle.ipfix_read.specs.Fault.{Reads}
use Rattle.ipfix_read.specs.Set.{Set, after_set, content_reading, sets_reading, written_length, set_next}
use Rattle.ipfix_read.specs.Message.{ReadFault, set_size, message_size}

-- the templates in force after one more item
pub after_more : {A : Type 0} (after : InForce → A → InForce) (before : InForce) (items : List A) (item : A)
    → after (fold after before items) item ≡ fold after before (items ++ item ∷ [])
after_more after before items item = sym (fold-append after before items (item ∷ []))

pub after_taken : (before : InForce) (domain : ℕ) (events : List TemplateEvent) (i : ℕ) (d : TemplateEvent) → i < length events
    → after_event domain (fold (after_event domain) before (take i events)) (get_or events i d) ≡ fold (after_event domain) before (take (i + 1) events)
after_taken before domain events i d lt =
    after_more (after_event domain) before (take i events) (get_or events i d) ∙ ap (fold (after_event domain) before) (sym (take_more events i d lt))

-- a fault of a part is one of the whole
pub fault_kept : {A B : Type 0} (part : Result A ReadFault) (whole : Result B ReadFault) (fault : ReadFault) → (part ≡ Err fault → whole ≡ Err fault)
    → Reads part (Err fault) → Reads whole (Err fault)
fault_kept part whole fault step (calls, inl memory) = (calls, inl memory)
fault_kept part whole fault step (calls, inr found) = (calls, inr (step found))

-- bytes that are not empty
pub not_empty : (xs : List ℕ) → eqb (length xs) 0 ≡ false → 0 < length xs
not_empty [] e = absurd (cc)
not_empty (x ∷ xs) e = omega arith

-- the bytes after some bytes, as a slice
pub from_place : (n : ℕ) (xs : List ℕ) → take (length xs - n) (drop n xs) ≡ drop n xs
from_place n xs = take_all (length xs - n) (drop n xs) (omega (arith, length-drop n xs))

-- numbers at the start of bytes
pub front_number : (n : ℕ) (xs : List ℕ) → 2 ≤ n → big_number 2 (take n xs) ≡ big_number 2 xs
front_number n xs h = rw (get_or-take n xs 0 0 (omega arith), get_or-take n xs 1 0 (omega arith)) refl

pub front_length : (n : ℕ) (xs : List ℕ) → 4 ≤ n → written_length (take n xs) ≡ written_length xs
front_length n xs h =
    rw (get_or-drop 2 (take n xs) 0 0, get_or-drop 2 (take n xs) 1 0, get_or-drop 2 xs 0 0, get_or-drop 2 xs 1 0, get_or-take n xs 2 0 (omega arith), get_or-take n xs 3 0 (omega arith)) refl

-- the result of a step that was changed
pub result_mapped : {A B F : Type 0} (r : Result A F) (f : A → B) (y : B) → result_map_both f (λ (fault : F). fault) r ≡ Ok y → (x : A) × (r ≡ Ok x) × (f x ≡ y)
result_mapped (Ok x) f y e = (x, refl, cc)
result_mapped (Err fault) f y e = absurd (cc)

-- ---- a set

module _ (templates : InForce) (domain offset : ℕ) (bytes : List ℕ) where
  -- the length in the header cuts off a set
  pub set_read : (size id : ℕ) (front after : List ℕ) (read : Result Set ReadFault) → size ≡ written_length bytes → 4 ≤ size → size ≤ length bytes
      → front ≡ take size bytes → after ≡ drop size bytes → id ≡ big_number 2 bytes
      → content_reading templates domain id (offset + 4) (take (length front - 4) (drop 4 front)) ≡ read
      → set_next templates domain offset bytes ≡ result_map_both (λ set. (set, after)) (λ fault. fault) read
  set_read size id front after read is least within front_is after_is id_is e =
      let content : drop 4 (take (written_length bytes) bytes) ≡ take (length front - 4) (drop 4 front) =
      ap (λ (n : ℕ). drop 4 (take n bytes)) (sym is) ∙ ap (drop 4) (sym front_is) ∙ sym (from_place 4 front) in
      let there : content_reading templates domain (big_number 2 bytes) (offset + 4) (drop 4 (take (written_length bytes) bytes)) ≡ read =
      ap (λ (n : ℕ). content_reading templates domain n (offset + 4) (drop 4 (take (written_length bytes) bytes))) (sym id_is)
      ∙ ap (λ (xs : List ℕ). content_reading templates domain id (offset + 4) xs) content ∙ e in
      let following : after ≡ drop (written_length bytes) bytes = after_is ∙ ap (λ (n : ℕ). drop n bytes) is in
      rw (le-ltb (written_length bytes) 4 (omega (arith, is, least)), le-ltb (length bytes) (written_length bytes) (omega (arith, is, within)), there, following) refl

set_smaller : (templates : InForce) (domain offset : ℕ) (bytes : List ℕ) (set : Set) (after : List ℕ) → set_next templates domain offset bytes ≡ Ok (set, after) → length after < length bytes
set_smaller templates domain offset bytes set after e = let rest = length-drop (written_length bytes) bytes in grind (arith, nat_tests, common_steps)

-- ---- several sets

-- reading has come to these bytes, after some sets of the whole
module _ (domain : ℕ) (whole : Result (List Set) ReadFault) (sets : List Set) (now : InForce) (offset : ℕ) (rest : List ℕ) (so_far : whole ≡ after_items sets (sets_reading now domain offset rest)) where
  abbrev Next : InForce → ℕ → List ℕ → Result (Set × List ℕ) ReadFault
  Next before = set_next before domain

  abbrev With : InForce → Set → InForce
  With = after_set domain

  smaller : (before : InForce) (at : ℕ) (bytes : List ℕ) (set : Set) (after : List ℕ) → eqb (length bytes) 0 ≡ false → Next before at bytes ≡ Ok (set, after) → length after < length bytes
  smaller before at bytes set after some e = set_smaller before domain at bytes set after e

  pub sets_more : (set : Set) (after : List ℕ) (later : ℕ) (new : InForce) → eqb (length rest) 0 ≡ false → set_next now domain offset rest ≡ Ok (set, after) → later ≡ offset + (length rest - length after)
      → new ≡ after_set domain now set → whole ≡ after_items (sets ++ set ∷ []) (sets_reading new domain later after)
  sets_more set after later new some read e is =
      at_item (λ rest. length rest == 0) Next With refl smaller whole sets now offset rest so_far set after later some read e
      ∙ ap (λ (t : InForce). after_items (sets ++ set ∷ []) (sets_reading t domain later after)) (sym is)

  pub sets_fault : (fault : ReadFault) → eqb (length rest) 0 ≡ false → set_next now domain offset rest ≡ Err fault → whole ≡ Err fault
  sets_fault = at_fault (λ rest. length rest == 0) Next With refl smaller whole sets now offset rest so_far

  pub sets_end : eqb (length rest) 0 ≡ true → whole ≡ Ok sets
  sets_end = at_end (λ rest. length rest == 0) Next With refl smaller whole sets now offset rest so_far

pub message_size_push : (sets : List Set) (set : Set) → message_size (sets ++ set ∷ []) ≡ message_size sets + set_size set
message_size_push sets set = omega (arith, sum_by-append set_size sets (set ∷ []), sum_by-cons set_size set [])
