use Rattle.std.proofs.Common.{ℕ, ◌≡◌, ◌+◌, ◌<◌, ◌∙◌, false, List, [], ◌∷◌, ◌++◌, length, map, drop, get_or, ap, refl, arith}
use Rattle.std.specs.List.{join_with_byte}
use Rattle.std.specs.Fmt.{digits}
use Rattle.std.proofs.lemmas.List.{drop_more, drop_all, length-drop, length-map}
use Rattle.prefix_keys.specs.Print.{joined_text}

-- Numbers separated by a separator.

-- one more piece before other pieces, or before nothing
pub join_before : (c : ℕ) (piece : List ℕ) (pieces : List (List ℕ)) → 0 < length pieces →
    join_with_byte c (piece ∷ pieces) ≡ piece ++ (c ∷ join_with_byte c pieces)
join_before c piece [] h = absurd (omega arith)
join_before c piece (x ∷ rest) h = refl

-- the numbers from an index on: the number there, and after a separator those from the next index on
module _ (base separator : ℕ) (numbers : List ℕ) (i d : ℕ) (inside : i < length numbers) where
  pub joined-last : i + 1 ≡ length numbers → joined_text base separator (drop i numbers) ≡ digits base false (get_or numbers i d)
  joined-last e =
      let none : drop (i + 1) numbers ≡ [] = drop_all (i + 1) numbers (omega arith) in
      ap (joined_text base separator) (drop_more numbers i d inside)
      ∙ ap (λ (rest : List ℕ). joined_text base separator (get_or numbers i d ∷ rest)) none

  pub joined-before : i + 1 < length numbers →
      joined_text base separator (drop i numbers)
      ≡ digits base false (get_or numbers i d) ++ (separator ∷ joined_text base separator (drop (i + 1) numbers))
  joined-before h =
      ap (joined_text base separator) (drop_more numbers i d inside)
      ∙ join_before separator (digits base false (get_or numbers i d)) (map (digits base false) (drop (i + 1) numbers))
      (omega (arith, length-map (drop (i + 1) numbers) (digits base false), length-drop (i + 1) numbers))
