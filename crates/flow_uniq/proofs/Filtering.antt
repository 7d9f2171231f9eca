-- The elements of a list that pass two tests, or are changed.
use Rattle.std.proofs.Common.{◌≡◌, ℕ, Bool, true, false, cond, List, [], ◌∷◌, filter, map, true≢false, refl, sym, ap, ◌∙◌, arith}
use Rattle.std.specs.Prelude.{sum_by}
use Rattle.std.specs.List.Sorted.{IsPermutation}
use Rattle.std.proofs.lemmas.List.Sorted.{sum_by-IsPermutation}
use Rattle.std.proofs.lemmas.List.Sums.{sum_by-cons}

module _ {X : Type 0} (p q : X → Bool) where
  -- what passes the second test passes the first
  pub filter-weaker : ((x : X) → q x ≡ true → p x ≡ true) → (xs : List X) → filter q (filter p xs) ≡ filter q xs
  filter-weaker both [] = refl
  filter-weaker both (x ∷ xs) = by (p x) (q x) refl refl (filter-weaker both xs)
    where
      by : (a b : Bool) → p x ≡ a → q x ≡ b → filter q (filter p xs) ≡ filter q xs
          → filter q (cond a (x ∷ filter p xs) (filter p xs)) ≡ cond b (x ∷ filter q xs) (filter q xs)
      by true true e f ih = rw f (ap (λ (l : List X). x ∷ l) ih)
      by true false e f ih = rw f ih
      by false true e f ih = absurd (true≢false (sym (both x f) ∙ e))
      by false false e f ih = ih

  -- what passes the first test doesn't pass the second
  pub filter-none : ((x : X) → p x ≡ true → q x ≡ false) → (xs : List X) → filter q (filter p xs) ≡ []
  filter-none none [] = refl
  filter-none none (x ∷ xs) = by (p x) refl (filter-none none xs)
    where
      by : (a : Bool) → p x ≡ a → filter q (filter p xs) ≡ [] → filter q (cond a (x ∷ filter p xs) (filter p xs)) ≡ []
      by true e ih = rw (none x e) ih
      by false e ih = ih

  pub filter-swap : (xs : List X) → filter p (filter q xs) ≡ filter q (filter p xs)
  filter-swap [] = refl
  filter-swap (x ∷ xs) = by (p x) (q x) refl refl (filter-swap xs)
    where
      by : (a b : Bool) → p x ≡ a → q x ≡ b → filter p (filter q xs) ≡ filter q (filter p xs)
          → filter p (cond b (x ∷ filter q xs) (filter q xs)) ≡ filter q (cond a (x ∷ filter p xs) (filter p xs))
      by true true e f ih = rw (e, f) (ap (λ (l : List X). x ∷ l) ih)
      by true false e f ih = rw f ih
      by false true e f ih = rw e ih
      by false false e f ih = ih

pub filter-map : {X Y : Type 0} (f : X → Y) (p : Y → Bool) (xs : List X) → filter p (map f xs) ≡ map f (filter (λ x. p (f x)) xs)
filter-map f p [] = refl
filter-map {X} {Y} f p (x ∷ xs) = by (p (f x)) (filter-map f p xs)
  where
    by : (b : Bool) → filter p (map f xs) ≡ map f (filter (λ x. p (f x)) xs)
        → cond b (f x ∷ filter p (map f xs)) (filter p (map f xs)) ≡ map f (cond b (x ∷ filter (λ x. p (f x)) xs) (filter (λ x. p (f x)) xs))
    by true ih = ap (λ (l : List Y). f x ∷ l) ih
    by false ih = ih

-- a sum over what passes a test doesn't depend on the order
module _ {X : Type 0} (p : X → Bool) (f : X → ℕ) where
  abbrev if_passes : X → ℕ
  if_passes x = cond (p x) (f x) 0

  sum_by-filter : (xs : List X) → sum_by f (filter p xs) ≡ sum_by if_passes xs
  sum_by-filter [] = refl
  sum_by-filter (x ∷ xs) = by (p x) refl (sum_by-filter xs)
    where
      by : (b : Bool) → p x ≡ b → sum_by f (filter p xs) ≡ sum_by if_passes xs
          → sum_by f (cond b (x ∷ filter p xs) (filter p xs)) ≡ sum_by if_passes (x ∷ xs)
      by true e ih = omega (arith, sum_by-cons f x (filter p xs), sum_by-cons if_passes x xs, ih, ap (λ b. cond b (f x) 0) e)
      by false e ih = omega (arith, sum_by-cons if_passes x xs, ih, ap (λ b. cond b (f x) 0) e)

  pub sum_by-filter_moved : (xs ys : List X) → IsPermutation xs ys → sum_by f (filter p xs) ≡ sum_by f (filter p ys)
  sum_by-filter_moved xs ys same = sum_by-filter xs ∙ sym (sum_by-IsPermutation if_passes xs ys same) ∙ sym (sum_by-filter ys)
