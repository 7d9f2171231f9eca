-- Reading one item after another, as a loop does.
use Rattle.std.proofs.Common.{append_assoc, ◌≡◌, ℕ, zero, suc, ◌+◌, ◌-◌, ◌<◌, ◌≤◌, Bool, true, false, List, [], ◌∷◌, ◌++◌, length, ◌⊎◌, Result, Ok, Err, inl, inr, refl, sym, ap, ◌∙◌, arith}
use Rattle.std.proofs.lemmas.List.{append-nil, nil_from_length}
use Rattle.ipfix_templates.specs.Reading.{after_items, items_by, items_from}

bool_is : (b : Bool) → (b ≡ true) ⊎ (b ≡ false)
bool_is true = inl refl
bool_is false = inr refl

result_is : {A F : Type 0} (r : Result A F) → ((x : A) × (r ≡ Ok x)) ⊎ ((fault : F) × (r ≡ Err fault))
result_is (Ok x) = inl (x, refl)
result_is (Err fault) = inr (fault, refl)

pub no_items : {A F : Type 0} (reading : Result (List A) F) → reading ≡ after_items [] reading
no_items (Ok later) = refl
no_items (Err fault) = refl

more_items : {A F : Type 0} (items : List A) (x : A) (reading : Result (List A) F) → after_items items (after_items (x ∷ []) reading) ≡ after_items (items ++ x ∷ []) reading
more_items items x (Ok later) = ap Ok (sym (append_assoc items (x ∷ []) later))
more_items items x (Err fault) = refl

-- there is no item without a byte, and an item has at least one
module _ {S A F : Type 0} (ends : List ℕ → Bool) (next : S → ℕ → List ℕ → Result (A × List ℕ) F) (with_one : S → A → S) (empty : ends [] ≡ true)
    (smaller : (before : S) (offset : ℕ) (bytes : List ℕ) (x : A) (after : List ℕ) → ends bytes ≡ false → next before offset bytes ≡ Ok (x, after) → length after < length bytes) where
  abbrev By : ℕ → S → ℕ → List ℕ → Result (List A) F
  By = items_by ends next with_one

  abbrev From : S → ℕ → List ℕ → Result (List A) F
  From = items_from ends next with_one

  end_by : (n : ℕ) (before : S) (offset : ℕ) (bytes : List ℕ) → ends bytes ≡ true → By n before offset bytes ≡ Ok []
  end_by zero before offset bytes end = refl
  end_by (suc n) before offset bytes end = rw end refl

  empty_by : (n : ℕ) (before : S) (offset : ℕ) (bytes : List ℕ) → length bytes ≤ 0 → By n before offset bytes ≡ Ok []
  empty_by n before offset bytes none = end_by n before offset bytes (ap ends (nil_from_length bytes (omega (arith, none))) ∙ empty)

  -- a larger bound on the number of items changes nothing
  bound : (n m : ℕ) (before : S) (offset : ℕ) (bytes : List ℕ) → length bytes ≤ n → length bytes ≤ m → By n before offset bytes ≡ By m before offset bytes
  bound zero m before offset bytes few more = sym (empty_by m before offset bytes few)
  bound (suc n) zero before offset bytes few more = empty_by (suc n) before offset bytes more
  bound (suc n) (suc m) before offset bytes few more =
      elim (bool_is (ends bytes)) [
        | inl end ↦ rw end refl
        | inr goes ↦
            elim (result_is (next before offset bytes)) [
              | inr (fault, is) ↦ rw (goes, is) refl
              | inl ((x, after), is) ↦
                  let less = smaller before offset bytes x after goes is in
                  rw (goes, is) (ap (after_items (x ∷ [])) (bound n m (with_one before x) (offset + (length bytes - length after)) after (omega (arith, few, less)) (omega (arith, more, less))))
            ]
      ]

  one_more : (n : ℕ) (before : S) (offset : ℕ) (bytes : List ℕ) → length bytes ≤ n → From before offset bytes ≡ By (suc n) before offset bytes
  one_more n before offset bytes few = bound (length bytes) (suc n) before offset bytes (omega arith) (omega (arith, few))

  -- a first item, and the rest after it
  pub first_and_rest : (before : S) (offset : ℕ) (bytes : List ℕ) (x : A) (after : List ℕ) → ends bytes ≡ false → next before offset bytes ≡ Ok (x, after)
      → From before offset bytes ≡ after_items (x ∷ []) (From (with_one before x) (offset + (length bytes - length after)) after)
  first_and_rest before offset bytes x after goes is =
      let less = smaller before offset bytes x after goes is in
      one_more (length bytes) before offset bytes (omega arith)
      ∙ rw (goes, is) (ap (after_items (x ∷ [])) (bound (length bytes) (length after) (with_one before x) (offset + (length bytes - length after)) after (omega (arith, less)) (omega arith)))

  -- reading has come to these bytes, after some items of the whole
  module _ (whole : Result (List A) F) (items : List A) (before : S) (offset : ℕ) (bytes : List ℕ) (so_far : whole ≡ after_items items (From before offset bytes)) where
    pub at_end : ends bytes ≡ true → whole ≡ Ok items
    at_end end = so_far ∙ rw (end_by (length bytes) before offset bytes end) (ap Ok (append-nil items))

    pub at_fault : (fault : F) → ends bytes ≡ false → next before offset bytes ≡ Err fault → whole ≡ Err fault
    at_fault fault goes is =
        let first : From before offset bytes ≡ Err fault = one_more (length bytes) before offset bytes (omega arith) ∙ rw (goes, is) refl in
        so_far ∙ ap (after_items items) first

    pub at_item : (x : A) (after : List ℕ) (later : ℕ) → ends bytes ≡ false → next before offset bytes ≡ Ok (x, after)
        → later ≡ offset + (length bytes - length after) → whole ≡ after_items (items ++ x ∷ []) (From (with_one before x) later after)
    at_item x after later goes is e =
        so_far ∙ ap (after_items items) (first_and_rest before offset bytes x after goes is) ∙ more_items items x _
        ∙ ap (λ (n : ℕ). after_items (items ++ x ∷ []) (From (with_one before x) n after)) (sym e)
