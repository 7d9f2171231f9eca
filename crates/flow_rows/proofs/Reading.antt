-- What is read at the places of elements is what the values of a record say of them.
use Rattle.std.proofs.Common.{◌≡◌, ◌∙◌, ℕ, ◌+◌, ◌≤◌, true, false, cond, List, [], ◌∷◌, ◌++◌, length, take, drop, Option, Some, None, refl, sym, ap, arith, append-nil, append_assoc, length-append}
use Rattle.std.specs.Prelude.{option_and_then, option_map, unwrap_or}
use Rattle.std.proofs.lemmas.Bool.{le-ltb}
use Rattle.std.proofs.lemmas.List.{length-drop, take_at}
use Rattle.ipfix_templates.proofs.Choice.{gave, mapped, some_is}
use Rattle.ipfix_templates.specs.Elements.{is_usable}
use Rattle.ipfix_templates.specs.declared.field.Field.{Field as FieldView}
use Rattle.ipfix_templates.specs.Field.{is_variable}
use Rattle.ipfix_templates.specs.declared.layout.Place.{Place}
use Rattle.ipfix_templates.specs.Layout.{place_of_element}
use Rattle.ipfix_templates.specs.Runs.{runs_from}
use Rattle.ipfix_read.specs.Value.{FieldValueView, after_runs, bytes_at, value_at, values_at, variable_at}
use Rattle.ipfix_read.proofs.RecordValues.{both_first, fixed_is, then_left, value_shorter, variable_is}
use Rattle.flow_rows.specs.Elements.{element}
use Rattle.flow_rows.specs.Inner.{big_endian, bytes_there, number_there}
use Rattle.flow_rows.proofs.Usable.{has_other_length}

-- the bytes after the runs lead to those after other runs, which begin with the same ones
led : (runs next : List ℕ) (run last : ℕ) (bytes rest found : List ℕ) → after_runs runs run bytes ≡ Some rest
    → ((from : List ℕ) → option_map (λ f. f.1) (bytes_at run from) ≡ Some rest → after_runs next last from ≡ Some found)
    → after_runs (runs ++ next) last bytes ≡ Some found
led [] next run last bytes rest found is leads = leads bytes is
led (n ∷ runs) next run last bytes rest found is leads =
    let a = gave (bytes_at n bytes) (λ f. option_and_then (λ v. after_runs runs run v.1) (variable_at f.1)) rest is in
    let b = gave (variable_at a.0.1) (λ v. after_runs runs run v.1) rest a.2 in
    rw (a.1, b.1) (led runs next run last b.0.1 rest found b.2 leads)

-- the bytes at a place before all values of variable length
pub before_values : (p : Place) (runs bytes : List ℕ) → p.skips ≡ 0 → p.offset + p.length ≤ length bytes
    → bytes_there p runs bytes ≡ Some (take p.length (drop p.offset bytes))
before_values p runs bytes none within =
    rw (
      none,
      le-ltb (length bytes) p.offset (omega (arith, within)),
      le-ltb (length (drop p.offset bytes)) p.length (omega (arith, within, length-drop p.offset bytes)),
    )
    refl

-- a number without bytes is 0
pub none_there : (p : Place) (runs bytes : List ℕ) → p.length ≡ 0 → number_there p runs bytes ≡ 0
none_there p runs bytes none =
    elim (after_runs (take p.skips runs) p.offset bytes) as (λ rest.
    big_endian (unwrap_or (option_and_then (λ rest. option_map (λ v. v.0) (bytes_at p.length rest)) rest) []) ≡ 0) [
      | None ↦ refl
      | Some rest ↦ rw (none, le-ltb (length rest) 0 (omega arith)) refl
    ]

-- the first value's number if its field is usable, otherwise that of the values after it
element-used : (direction : Option ℕ) (number : ℕ) (v : FieldValueView) (vs : List FieldValueView) → is_usable direction number v.field ≡ true
    → element direction (v ∷ vs) number ≡ Some (big_endian v.value)
element-used direction number v vs usable = rw usable refl

element-passed : (direction : Option ℕ) (number : ℕ) (v : FieldValueView) (vs : List FieldValueView) → is_usable direction number v.field ≡ false
    → element direction (v ∷ vs) number ≡ element direction vs number
element-passed direction number v vs unusable = rw unusable refl

module _ (direction : Option ℕ) (number : ℕ) (bytes : List ℕ) where
  -- the number at a place, given the runs before it and those after them
  abbrev said_at : List ℕ → ℕ → ℕ → List FieldView → ℕ
  said_at front skips offset fields = number_there (place_of_element direction number skips offset fields) (front ++ runs_from offset fields) bytes

  said_from : (fields : List FieldView) (front rest : List ℕ) (skips offset : ℕ) (x : List FieldValueView × List ℕ)
      → skips ≡ length front → after_runs front offset bytes ≡ Some rest → values_at fields rest ≡ Some x
      → said_at front skips offset fields ≡ unwrap_or (element direction x.0 number) 0
  unfolding values_at
  said_from [] front rest skips offset x skips_are after read =
      none_there (record { offset = 0; skips = 0; length = 0 }) (front ++ runs_from offset []) bytes refl
      ∙ ap (λ (vs : List FieldValueView). unwrap_or (element direction vs number) 0) (ap (λ (y : List FieldValueView × List ℕ). y.0) (some_is ([], rest) x read))
  said_from (f ∷ fs) front rest skips offset x skips_are after read =
      let a = gave (value_at f rest) (λ v. option_and_then (λ vs. Some (record { field = f; value = v.0 } ∷ vs.0, vs.1)) (values_at fs v.1)) x read in
      let b = gave (values_at fs a.0.1) (λ vs. Some (record { field = f; value = a.0.0 } ∷ vs.0, vs.1)) x a.2 in
      let first : FieldValueView = record { field = f; value = a.0.0 } in
      let are : first ∷ b.0.0 ≡ x.0 = ap (λ (y : List FieldValueView × List ℕ). y.0) (some_is _ _ b.2) in
      let said = λ (vs : List FieldValueView). unwrap_or (element direction vs number) 0 in
      elim (is_usable direction number f) as (λ b. is_usable direction number f ≡ b → said_at front skips offset (f ∷ fs) ≡ said x.0) [
        | true ↦ λ usable.
            let value = sym (fixed_is f rest (has_other_length 65535 refl direction number f usable)) ∙ a.1 in
            let there : bytes_there (record { offset = offset; skips = length front; length = f.length }) (front ++ runs_from offset (f ∷ fs)) bytes ≡ Some a.0.0 =
            rw (take_at front (runs_from offset (f ∷ fs)) (length front) refl, after, value) refl in
            rw usable
            ((λ i. number_there (record { offset = offset; skips = skips_are i; length = f.length }) (front ++ runs_from offset (f ∷ fs)) bytes)
            ∙ ap (λ (o : Option (List ℕ)). big_endian (unwrap_or o [])) there
            ∙ sym (ap (λ (o : Option ℕ). unwrap_or o 0) (element-used direction number first b.0.0 usable)) ∙ ap said are)
        | false ↦ λ unusable.
            let passed : said b.0.0 ≡ said x.0 = sym (ap (λ (o : Option ℕ). unwrap_or o 0) (element-passed direction number first b.0.0 unusable)) ∙ ap said are in
            rw unusable
            (elim (is_variable f) as (λ c. is_variable f ≡ c
            → number_there (cond c (place_of_element direction number (skips + 1) 0 fs) (place_of_element direction number skips (offset + f.length) fs))
            (front ++ cond c (offset ∷ runs_from 0 fs) (runs_from (offset + f.length) fs)) bytes
            ≡ said x.0) [
              | true ↦ λ variable.
                  let next : after_runs (front ++ offset ∷ []) 0 bytes ≡ Some a.0.1 =
                  led front (offset ∷ []) offset 0 bytes rest a.0.1 after (λ from is.
                  let b = mapped (bytes_at offset from) (λ f. f.1) rest is in
                  rw (b.1, b.2, sym (variable_is f rest variable) ∙ a.1, le-ltb (length a.0.1) 0 (omega arith)) refl) in
                  ap (λ (runs : List ℕ). number_there (place_of_element direction number (skips + 1) 0 fs) runs bytes) (sym (append_assoc front (offset ∷ []) (runs_from 0 fs)))
                  ∙ said_from fs (front ++ offset ∷ []) a.0.1 (skips + 1) 0 b.0 (omega (arith, skips_are, length-append front (offset ∷ []))) next b.1
                  ∙ passed
              | false ↦ λ fixed.
                  said_from fs front a.0.1 skips (offset + f.length) b.0 skips_are
                  (rw (append-nil front) at (led front [] offset (offset + f.length) bytes rest a.0.1 after (λ from is.
                  let b = mapped (bytes_at offset from) (λ f. f.1) rest is in
                  then_left (bytes_at (offset + f.length) from) ∙ sym (both_first (λ bs. Some bs) offset f.length from)
                  ∙ rw (b.1, b.2, sym (fixed_is f rest fixed) ∙ a.1) refl)))
                  b.1
                  ∙ passed
            ]
            refl)
      ]
      refl

-- a place after values of variable length says so, unless the element is missing
after_variable : (direction : Option ℕ) (number skips offset : ℕ) (fields : List FieldView) → 1 ≤ skips → (place_of_element direction number skips offset fields).skips ≡ 0
    → (place_of_element direction number skips offset fields).offset + (place_of_element direction number skips offset fields).length ≡ 0
after_variable direction number skips offset [] some none = refl
after_variable direction number skips offset (f ∷ fs) some none =
    elim (is_usable direction number f) as (λ b.
    let p = cond b (record { offset = offset; skips = skips; length = f.length })
    (cond (is_variable f) (place_of_element direction number (skips + 1) 0 fs) (place_of_element direction number skips (offset + f.length) fs)) in
    p.skips ≡ 0 → p.offset + p.length ≡ 0) [
      | true ↦ λ none. omega (arith, some, none)
      | false ↦ elim (is_variable f) as (λ b.
          let p = cond b (place_of_element direction number (skips + 1) 0 fs) (place_of_element direction number skips (offset + f.length) fs) in
          p.skips ≡ 0 → p.offset + p.length ≡ 0) [
            | true ↦ after_variable direction number (skips + 1) 0 fs (omega arith)
            | false ↦ after_variable direction number skips (offset + f.length) fs some
          ]
    ]
    none

-- a place before all values of variable length is within the record
pub within_record : (direction : Option ℕ) (number offset : ℕ) (fields : List FieldView) (rest : List ℕ) (x : List FieldValueView × List ℕ)
    → values_at fields rest ≡ Some x → (place_of_element direction number 0 offset fields).skips ≡ 0
    → (place_of_element direction number 0 offset fields).offset + (place_of_element direction number 0 offset fields).length ≤ offset + length rest
unfolding values_at
within_record direction number offset [] rest x read none = omega arith
within_record direction number offset (f ∷ fs) rest x read none =
    let a = gave (value_at f rest) (λ v. option_and_then (λ vs. Some (record { field = f; value = v.0 } ∷ vs.0, vs.1)) (values_at fs v.1)) x read in
    let b = gave (values_at fs a.0.1) (λ vs. Some (record { field = f; value = a.0.0 } ∷ vs.0, vs.1)) x a.2 in
    let sizes : is_variable f ≡ false → length a.0.1 + f.length ≤ length rest = (λ fixed. rw fixed at (value_shorter f rest a.0 a.1)) in
    elim (is_usable direction number f) as (λ c. is_usable direction number f ≡ c →
    let p = cond c (record { offset = offset; skips = 0; length = f.length })
    (cond (is_variable f) (place_of_element direction number 1 0 fs) (place_of_element direction number 0 (offset + f.length) fs)) in
    p.skips ≡ 0 → p.offset + p.length ≤ offset + length rest) [
      | true ↦ λ usable none. omega (arith, sizes (has_other_length 65535 refl direction number f usable))
      | false ↦ λ _. elim (is_variable f) as (λ c. is_variable f ≡ c →
          let p = cond c (place_of_element direction number 1 0 fs) (place_of_element direction number 0 (offset + f.length) fs) in
          p.skips ≡ 0 → p.offset + p.length ≤ offset + length rest) [
            | true ↦ λ _ none. omega (arith, after_variable direction number 1 0 fs (omega arith) none)
            | false ↦ λ fixed none. omega (arith, sizes fixed, within_record direction number (offset + f.length) fs a.0.1 b.0 b.1 none)
          ]
          refl
    ]
    refl none

-- the number at the place of an element is that of the record's values
pub said_there : (direction : Option ℕ) (number : ℕ) (fields : List FieldView) (bytes : List ℕ) (values : List FieldValueView) (rest : List ℕ)
    → values_at fields bytes ≡ Some (values, rest)
    → number_there (place_of_element direction number 0 0 fields) (runs_from 0 fields) bytes ≡ unwrap_or (element direction values number) 0
said_there direction number fields bytes values rest read =
    said_from direction number bytes fields [] bytes 0 0 (values, rest) refl (rw (le-ltb (length bytes) 0 (omega arith)) refl) read
