-- Tests and filters of lists.
use Rattle.std.proofs.Common.{◌≡◌, ℕ, Bool, true, false, cond, ◌||◌, ◌-◌, List, [], ◌∷◌, drop, filter, length, length-drop, take, refl, sym, ap, arith}
use Rattle.std.proofs.lemmas.List.{take_all}
use Rattle.std.specs.List.{list_any}
use Rattle.std.proofs.lemmas.Bool.{false≢true}

-- some element that passes is kept exactly if some element passes
pub any-filtered : {X : Type 0} (p : X → Bool) (xs : List X) → list_any p (filter p xs) ≡ list_any p xs
any-filtered p [] = refl
any-filtered {X} p (x ∷ xs) = step (p x) refl (any-filtered p xs)
  where
    step : (b : Bool) → p x ≡ b → list_any p (filter p xs) ≡ list_any p xs → list_any p (cond b (x ∷ filter p xs) (filter p xs)) ≡ (b || list_any p xs)
    step true e rest = ap (λ c. c || list_any p (filter p xs)) e
    step false e rest = rest

-- a filter keeps nothing if no element passes
pub none_kept : {X : Type 0} (p : X → Bool) (xs : List X) → list_any p xs ≡ false → filter p xs ≡ []
none_kept p [] e = refl
none_kept {X} p (x ∷ xs) e = step (p x) (none_kept p xs) e
  where
    step : (b : Bool) → (list_any p xs ≡ false → filter p xs ≡ []) → (b || list_any p xs) ≡ false → cond b (x ∷ filter p xs) (filter p xs) ≡ []
    step true rest e = absurd (false≢true (sym e))
    step false rest e = rest e

-- as many elements as are left from an index on are all of them
pub slice-from : {X : Type 0} (xs : List X) (i : ℕ) → take (length xs - i) (drop i xs) ≡ drop i xs
slice-from xs i = take_all (length xs - i) (drop i xs) (omega (arith, length-drop i xs))
