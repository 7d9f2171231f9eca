-- A list in order has the same elements. It is the only list that ascends and keeps the order of elements that tie.
use Rattle.std.proofs.Common.{◌≡◌, get_or, zero, suc, ◌+◌, Bool, true, false, not, ◌&&◌, cond, if◌then◌else◌, List, [], ◌∷◌, map, filter, All, true≢false, refl, sym, ap, subst, ◌∙◌, arith}
use Rattle.std.proofs.lemmas.Bool.{and_parts, both_ways, false_from_ne_true, not-true}
use Rattle.std.proofs.lemmas.List.Elements.{All-cons, All-filter, All-from_get_or, All-head, All-nil, All-weaker}
use Rattle.std.proofs.lemmas.List.Sorted.{All-permutation, IsPermutation-cons, IsPermutation-middle, IsPermutation-refl, IsPermutation-trans, sorted_far}
use Rattle.std.specs.Cmp.{IsStrictWeakOrder}
use Rattle.std.specs.List.Sorted.{IsPermutation, IsSortedBy, IsStableBy, ties}
use Rattle.pmap_model.specs.Sorting.{in_order, with_in_order}

-- A list in order is a permutation.

module _ {X : Type 0} (lt : X → X → Bool) where
  pub same-with_in_order : (x : X) (ys : List X) → IsPermutation (x ∷ ys) (with_in_order lt x ys)
  same-with_in_order x [] = IsPermutation-refl (x ∷ [])
  same-with_in_order x (y ∷ ys) = by (lt y x) (same-with_in_order x ys)
    where
      by : (b : Bool) → IsPermutation (x ∷ ys) (with_in_order lt x ys)
          → IsPermutation (x ∷ y ∷ ys) (if b then y ∷ with_in_order lt x ys else x ∷ y ∷ ys)
      by true ih =
          IsPermutation-trans (x ∷ y ∷ ys) (y ∷ x ∷ ys) (y ∷ with_in_order lt x ys) (IsPermutation-middle (x ∷ []) y ys)
          (IsPermutation-cons y (x ∷ ys) (with_in_order lt x ys) ih)
      by false ih = IsPermutation-refl (x ∷ y ∷ ys)

  pub same-in_order : (xs : List X) → IsPermutation xs (in_order lt xs)
  same-in_order [] = IsPermutation-refl []
  same-in_order (x ∷ xs) =
      IsPermutation-trans (x ∷ xs) (x ∷ in_order lt xs) (in_order lt (x ∷ xs))
      (IsPermutation-cons x xs (in_order lt xs) (same-in_order xs)) (same-with_in_order x (in_order lt xs))

-- two elements at the start of a list are swapped if not both are kept
swapped : {X : Type 0} (x y : X) (xs : List X) (a b : Bool) → (a ≡ true → b ≡ true → ⊥)
    → cond b (y ∷ cond a (x ∷ xs) xs) (cond a (x ∷ xs) xs) ≡ cond a (x ∷ cond b (y ∷ xs) xs) (cond b (y ∷ xs) xs)
swapped x y xs true true h = absurd (h refl refl)
swapped x y xs true false h = refl
swapped x y xs false true h = refl
swapped x y xs false false h = refl

module _ {X : Type 0} (lt : X → X → Bool) (o : IsStrictWeakOrder lt) where
  irreflexive : (x : X) → lt x x ≡ false
  irreflexive x = false_from_ne_true (lt x x) (λ e. both_ways (lt x x) (o.one_way x x e) e)

  ties_parts : (x y : X) → ties lt x y ≡ true → (lt x y ≡ false) × (lt y x ≡ false)
  ties_parts x y e = let p = and_parts (not (lt x y)) (not (lt y x)) e in (not-true (lt x y) p.0, not-true (lt y x) p.1)

  ties_from : (x y : X) → lt x y ≡ false → lt y x ≡ false → ties lt x y ≡ true
  ties_from x y p q = ap (λ b. not b && not (lt y x)) p ∙ ap (λ b. not b) q

  -- no element is less than one before it
  abbrev Ascends : List X → Type 0
  Ascends [] = Unit {0}
  Ascends (x ∷ xs) = All (λ y. lt y x ≡ false) xs × Ascends xs

  -- the elements that are kept of a list with one more element before it
  kept : (p : X → Bool) (x : X) (xs : List X) (b : Bool) → p x ≡ b → filter p (x ∷ xs) ≡ cond b (x ∷ filter p xs) (filter p xs)
  kept p x xs b e = ap (λ c. cond c (x ∷ filter p xs) (filter p xs)) e

  -- the first element that is kept has what all elements have
  front_has : (P : X → Type 0) (p : X → Bool) (x : X) (xs ys : List X) → filter p xs ≡ x ∷ ys → All P xs → P x
  front_has P p x xs ys e all = All-head P x ys (subst (All P) e (All-filter p P xs all))

  same_tails : (p : X → Bool) (x : X) (xs ys : List X) (b : Bool) → p x ≡ b → filter p (x ∷ xs) ≡ filter p (x ∷ ys) → filter p xs ≡ filter p ys
  same_tails p x xs ys true e h =
      let both : x ∷ filter p xs ≡ x ∷ filter p ys = sym (kept p x xs true e) ∙ h ∙ kept p x ys true e in cc
  same_tails p x xs ys false e h = sym (kept p x xs false e) ∙ h ∙ kept p x ys false e

  same_ascending : (xs ys : List X) → Ascends xs → Ascends ys → ((z : X) → filter (ties lt z) xs ≡ filter (ties lt z) ys) → xs ≡ ys
  same_ascending [] [] r s same = refl
  same_ascending [] (y ∷ ys) r s same =
      let h : [] ≡ y ∷ filter (ties lt y) ys = same y ∙ kept (ties lt y) y ys true (ties_from y y (irreflexive y) (irreflexive y)) in
      cc
  same_ascending (x ∷ xs) [] r s same =
      let h : [] ≡ x ∷ filter (ties lt x) xs = sym (same x) ∙ kept (ties lt x) x xs true (ties_from x x (irreflexive x) (irreflexive x)) in
      cc
  same_ascending (x ∷ xs) (y ∷ ys) r s same = by (ties lt x y) (ties lt y x) refl refl (same_ascending xs ys r.1 s.1)
    where
      left : filter (ties lt x) (x ∷ xs) ≡ x ∷ filter (ties lt x) xs
      left = kept (ties lt x) x xs true (ties_from x x (irreflexive x) (irreflexive x))

      right : filter (ties lt y) (y ∷ ys) ≡ y ∷ filter (ties lt y) ys
      right = kept (ties lt y) y ys true (ties_from y y (irreflexive y) (irreflexive y))

      joined : x ≡ y → (((z : X) → filter (ties lt z) xs ≡ filter (ties lt z) ys) → xs ≡ ys) → x ∷ xs ≡ y ∷ ys
      joined e ih =
          let tails : (z : X) → filter (ties lt z) xs ≡ filter (ties lt z) ys
          = λ z. same_tails (ties lt z) x xs ys (ties lt z x) refl
          (same z ∙ ap (λ (w : X). filter (ties lt z) (w ∷ ys)) (sym e)) in
          let rest : xs ≡ ys = ih tails in
          cc

      by : (a b : Bool) → ties lt x y ≡ a → ties lt y x ≡ b
          → (((z : X) → filter (ties lt z) xs ≡ filter (ties lt z) ys) → xs ≡ ys) → x ∷ xs ≡ y ∷ ys
      by true b e f ih =
          let both : x ∷ filter (ties lt x) xs ≡ y ∷ filter (ties lt x) ys = sym left ∙ same x ∙ kept (ties lt x) y ys true e in
          let heads : x ≡ y = cc in
          joined heads ih
      by false true e f ih =
          let p = ties_parts y x f in
          absurd (true≢false (sym (ties_from x y p.1 p.0) ∙ e))
      by false false e f ih =
          let here : filter (ties lt x) ys ≡ x ∷ filter (ties lt x) xs = sym (kept (ties lt x) y ys false e) ∙ sym (same x) ∙ left in
          let there : filter (ties lt y) xs ≡ y ∷ filter (ties lt y) ys = sym (kept (ties lt y) x xs false f) ∙ same y ∙ right in
          let p : lt x y ≡ false = front_has (λ w. lt w y ≡ false) (ties lt x) x ys _ here s.0 in
          let q : lt y x ≡ false = front_has (λ w. lt w x ≡ false) (ties lt y) y xs _ there r.0 in
          absurd (true≢false (sym (ties_from x y p q) ∙ e))

  ascends_from_sorted : (xs : List X) → IsSortedBy lt xs → Ascends xs
  ascends_from_sorted [] up = tt
  ascends_from_sorted (x ∷ xs) up = (
    All-from_get_or (λ y. lt y x ≡ false) xs x (λ i h. sorted_far lt o (x ∷ xs) up 0 (suc i) x (omega arith) (omega arith)),
    ascends_from_sorted xs (λ k d low h. sorted_far lt o (x ∷ xs) up (suc k) (suc (k + 1)) d (omega arith) (omega arith)),
  )

  sorted_from_ascends : (xs : List X) → Ascends xs → IsSortedBy lt xs
  sorted_from_ascends [] r k d low h = absurd (omega arith)
  sorted_from_ascends (x ∷ xs) r zero d low h = r.0 0 d (omega arith)
  sorted_from_ascends (x ∷ xs) r (suc k) d low h =
      let next : suc (k + 1) ≡ suc k + 1 = omega arith in
      subst (λ j. lt (get_or (x ∷ xs) j d) (get_or xs k d) ≡ false) next (sorted_from_ascends xs r.1 k d (omega arith) (omega arith))

  All-with_in_order : (P : X → Type 0) (x : X) (ys : List X) → P x → All P ys → All P (with_in_order lt x ys)
  All-with_in_order P x ys here all = All-permutation P (x ∷ ys) (with_in_order lt x ys) (same-with_in_order lt x ys) (All-cons P x ys here all)

  ascends-with_in_order : (x : X) (ys : List X) → Ascends ys → Ascends (with_in_order lt x ys)
  ascends-with_in_order x [] r = (All-nil (λ y. lt y x ≡ false), tt)
  ascends-with_in_order x (y ∷ ys) r = by (lt y x) refl (ascends-with_in_order x ys r.1)
    where
      by : (b : Bool) → lt y x ≡ b → Ascends (with_in_order lt x ys) → Ascends (if b then y ∷ with_in_order lt x ys else x ∷ y ∷ ys)
      by true e ih = (All-with_in_order (λ z. lt z y ≡ false) x ys (o.one_way y x e) r.0, ih)
      by false e ih = (
        All-cons (λ z. lt z x ≡ false) y ys e
            (All-weaker (λ z. lt z y ≡ false) (λ z. lt z x ≡ false) (λ z h. o.chain z y x h e) ys r.0),
        r,
      )

  stable-with_in_order : (z x : X) (ys : List X) → filter (ties lt z) (with_in_order lt x ys) ≡ filter (ties lt z) (x ∷ ys)
  stable-with_in_order z x [] = refl
  stable-with_in_order z x (y ∷ ys) = by (lt y x) refl (stable-with_in_order z x ys)
    where
      by : (b : Bool) → lt y x ≡ b → filter (ties lt z) (with_in_order lt x ys) ≡ filter (ties lt z) (x ∷ ys)
          → filter (ties lt z) (if b then y ∷ with_in_order lt x ys else x ∷ y ∷ ys) ≡ filter (ties lt z) (x ∷ y ∷ ys)
      by false e ih = refl
      by true e ih =
          ap (λ (l : List X). cond (ties lt z y) (y ∷ l) l) ih
          ∙ swapped x y (filter (ties lt z) ys) (ties lt z x) (ties lt z y)
          (λ p q. true≢false (sym e ∙ o.chain y z x (ties_parts z y q).1 (ties_parts z x p).0))

  ascends-in_order : (xs : List X) → Ascends (in_order lt xs)
  ascends-in_order [] = tt
  ascends-in_order (x ∷ xs) = ascends-with_in_order x (in_order lt xs) (ascends-in_order xs)

  pub in_order-sorted : (xs : List X) → IsSortedBy lt (in_order lt xs)
  in_order-sorted xs = sorted_from_ascends (in_order lt xs) (ascends-in_order xs)

  pub stable-in_order : (z : X) (xs : List X) → filter (ties lt z) (in_order lt xs) ≡ filter (ties lt z) xs
  stable-in_order z [] = refl
  stable-in_order z (x ∷ xs) =
      stable-with_in_order z x (in_order lt xs) ∙ ap (λ (l : List X). cond (ties lt z x) (x ∷ l) l) (stable-in_order z xs)

  -- the result of a stable sort
  pub sorted_is : (xs ys : List X) → IsSortedBy lt ys → IsStableBy lt xs ys → ys ≡ in_order lt xs
  sorted_is xs ys up stable =
      same_ascending ys (in_order lt xs) (ascends_from_sorted ys up) (ascends-in_order xs)
      (λ z. stable z ∙ sym (stable-in_order z xs))

-- elements ordered by a function of them
module _ {X Y : Type 0} (f : X → Y) (lt : Y → Y → Bool) where
  map-with_in_order : (x : X) (ys : List X) → map f (with_in_order (λ a b. lt (f a) (f b)) x ys) ≡ with_in_order lt (f x) (map f ys)
  map-with_in_order x [] = refl
  map-with_in_order x (y ∷ ys) = by (lt (f y) (f x)) (map-with_in_order x ys)
    where
      by : (b : Bool) → map f (with_in_order (λ a b. lt (f a) (f b)) x ys) ≡ with_in_order lt (f x) (map f ys)
          → map f (if b then y ∷ with_in_order (λ a b. lt (f a) (f b)) x ys else x ∷ y ∷ ys)
          ≡ (if b then f y ∷ with_in_order lt (f x) (map f ys) else f x ∷ f y ∷ map f ys)
      by true ih = ap (λ (l : List Y). f y ∷ l) ih
      by false ih = refl

  pub map-in_order : (xs : List X) → map f (in_order (λ a b. lt (f a) (f b)) xs) ≡ in_order lt (map f xs)
  map-in_order [] = refl
  map-in_order (x ∷ xs) =
      map-with_in_order x (in_order (λ a b. lt (f a) (f b)) xs) ∙ ap (λ (l : List Y). with_in_order lt (f x) l) (map-in_order xs)
