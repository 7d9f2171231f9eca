-- Fields that are usable for an element, and their lengths.
use Rattle.std.proofs.Common.{arith, ◌≡◌, ◌∙◌, ℕ, ◌+◌, ◌≤◌, Bool, true, false, not, cond, List, [], ◌∷◌, Option, Some, is_some, map, refl, sym, ap}
use Rattle.std.specs.Prelude.{◌&&◌, ◌==◌, find, nat_eq, nat_le}
use Rattle.std.specs.List.{list_all}
use Rattle.std.specs.Option.{option_eq, option_map_or}
use Rattle.std.proofs.lemmas.Bool.{and_parts, eqb-true, false_from_ne_true, leb-true, not-true, true≢false}
use Rattle.ipfix_templates.specs.declared.layout.TheConstants.{ELEMENTS}
use Rattle.ipfix_templates.specs.Elements.{fits, is_usable}
use Rattle.ipfix_templates.specs.declared.field.Field.{Field as FieldView}
use Rattle.ipfix_templates.specs.Field.{is_variable}
use Rattle.ipfix_templates.specs.Layout.{is_there, place_of_element}
use Rattle.ipfix_read.specs.Value.{FieldValueView}
use Rattle.flow_rows.specs.Elements.{element}

-- an element of a row, with the lengths that its fields may have
abbrev pub IsListed : ℕ → ℕ × ℕ → Type 0
IsListed number range = find (λ e. e.0 == number) ELEMENTS ≡ Some (number, range)

-- a field of an element has a length that its element may have
usable_fits : (direction : Option ℕ) (number : ℕ) (f : FieldView) → is_usable direction number f ≡ true → fits number f.length ≡ true
usable_fits direction number f usable =
    (and_parts (option_eq nat_eq f.enterprise direction) _ (and_parts (f.number == number) _ usable).1).1

usable_within : (direction : Option ℕ) (number : ℕ) (range : ℕ × ℕ) (f : FieldView) → IsListed number range
    → is_usable direction number f ≡ true → (range.0 ≤ f.length) × (f.length ≤ range.1)
unfolding fits
usable_within direction number range f listed usable =
    let tests : (nat_le range.0 f.length && nat_le f.length range.1) ≡ true = rw listed at (usable_fits direction number f usable) in
    let both = and_parts (nat_le range.0 f.length) (nat_le f.length range.1) tests in
    (leb-true range.0 f.length both.0, leb-true f.length range.1 both.1)

-- a test that no entry passes
none_passes : (f : ℕ × (ℕ × ℕ) → Bool) (key : ℕ × (ℕ × ℕ) → Bool) (table : List (ℕ × (ℕ × ℕ)))
    → list_all (λ e. not (f e)) table ≡ true → option_map_or f (find key table) false ≡ false
none_passes f key [] h = refl
none_passes f key (e ∷ table) h =
    let parts = and_parts (not (f e)) (list_all (λ e. not (f e)) table) h in
    elim (key e) as (λ b. option_map_or f (cond b (Some e) (find key table)) false ≡ false) [
      | true ↦ not-true (f e) parts.0
      | false ↦ none_passes f key table parts.1
    ]

-- the length of a usable field is one that some element may have
pub has_other_length : (len : ℕ) → list_all (λ e. not (nat_le e.1.0 len && nat_le len e.1.1)) ELEMENTS ≡ true
    → (direction : Option ℕ) (number : ℕ) (f : FieldView) → is_usable direction number f ≡ true → (f.length == len) ≡ false
unfolding fits
has_other_length len unlisted direction number f usable =
    false_from_ne_true (f.length == len)
    (λ is.
    true≢false
    (
    sym (usable_fits direction number f usable) ∙ ap (fits number) (eqb-true f.length len is)
    ∙ none_passes (λ e. nat_le e.1.0 len && nat_le len e.1.1) (λ e. e.0 == number) ELEMENTS unlisted
    ))

-- ---- the place of an element

abbrev pub fields_of : List FieldValueView → List FieldView
fields_of values = map (λ v. v.field) values

-- it is there exactly if the values have the element
pub there-place : (direction : Option ℕ) (number skips offset : ℕ) (values : List FieldValueView)
    → is_there (place_of_element direction number skips offset (fields_of values)) ≡ is_some (element direction values number)
there-place direction number skips offset [] = refl
there-place direction number skips offset (v ∷ vs) =
    elim (is_usable direction number v.field) as (λ b. is_usable direction number v.field ≡ b
    → is_there (place_of_element direction number skips offset (fields_of (v ∷ vs))) ≡ is_some (element direction (v ∷ vs) number)) [
      | true ↦ λ usable. rw usable (ap not (has_other_length 0 refl direction number v.field usable))
      | false ↦ λ unusable. rw unusable
          (elim (is_variable v.field) as (λ b.
          is_there (cond b (place_of_element direction number (skips + 1) 0 (fields_of vs)) (place_of_element direction number skips (offset + v.field.length) (fields_of vs)))
          ≡ is_some (element direction vs number)) [
            | true ↦ there-place direction number (skips + 1) 0 vs
            | false ↦ there-place direction number skips (offset + v.field.length) vs
          ])
    ]
    refl

-- its length is one that the element may have, unless it is missing
pub length-place : (direction : Option ℕ) (number skips offset : ℕ) (range : ℕ × ℕ) (fields : List FieldView) → IsListed number range
    → ((place_of_element direction number skips offset fields).length ≤ range.1)
    × (is_there (place_of_element direction number skips offset fields) ≡ true → range.0 ≤ (place_of_element direction number skips offset fields).length)
length-place direction number skips offset range [] listed = (omega arith, λ is. absurd (cc))
length-place direction number skips offset range (f ∷ fs) listed =
    elim (is_usable direction number f) as (λ b. is_usable direction number f ≡ b
    → ((place_of_element direction number skips offset (f ∷ fs)).length ≤ range.1)
    × (is_there (place_of_element direction number skips offset (f ∷ fs)) ≡ true → range.0 ≤ (place_of_element direction number skips offset (f ∷ fs)).length)) [
      | true ↦ λ usable. let within = usable_within direction number range f listed usable in rw usable (within.1, λ _. within.0)
      | false ↦ λ unusable. rw unusable
          (elim (is_variable f) as (λ b.
          let p = cond b (place_of_element direction number (skips + 1) 0 fs) (place_of_element direction number skips (offset + f.length) fs) in
          (p.length ≤ range.1) × (is_there p ≡ true → range.0 ≤ p.length)) [
            | true ↦ length-place direction number (skips + 1) 0 range fs listed
            | false ↦ length-place direction number skips (offset + f.length) range fs listed
          ])
    ]
    refl
