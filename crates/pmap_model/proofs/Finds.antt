-- The elements of a list, and the ones that are found in it.
use Rattle.std.proofs.Common.{◌≡◌, ◌⊎◌, inl, inr, Bool, true, false, cond, List, [], ◌∷◌, ◌++◌, Some, None, refl, sym, ap, ◌∙◌, subst, arith, All, Contains, filter, find, map, option_map}
use Rattle.std.specs.List.{IsDistinct}
use Rattle.std.proofs.lemmas.Bool.{both_ways}
use Rattle.std.proofs.lemmas.Map.Keys.{IsDistinct-head, IsDistinct-tail}
use Rattle.std.proofs.lemmas.Option.{none-some, same_Some}
use Rattle.std.proofs.lemmas.List.Elements.{All-cons, All-contains, All-from_recursion, All-head, All-nil, All-tail, Contains-append_left, Contains-append_right, Contains-append_cases, Contains-push, Contains-push_cases}

pub Contains-first : {X : Type 0} (x : X) (xs : List X) → Contains (x ∷ xs) x
Contains-first x xs = Contains-append_left (x ∷ []) xs x (Contains-push [] x)

pub Contains-later : {X : Type 0} (y : X) (xs : List X) (x : X) → Contains xs x → Contains (y ∷ xs) x
Contains-later y xs x has = Contains-append_right (y ∷ []) xs x has

pub Contains-nil : {X : Type 0} (x : X) → Contains [] x → ⊥
Contains-nil x has = omega (arith, has.1)

pub Contains-cases : {X : Type 0} (y : X) (xs : List X) (x : X) → Contains (y ∷ xs) x → (y ≡ x) ⊎ Contains xs x
Contains-cases y xs x has =
    elim (Contains-append_cases (y ∷ []) xs x has) [
      | inl first ↦ elim (Contains-push_cases [] y x first) [ inl none ↦ absurd (Contains-nil x none) | inr same ↦ inl same ]
      | inr later ↦ inr later
    ]

-- an element of a mapped list comes from an element of the list
pub Contains-from_map : {X Y : Type 0} (f : X → Y) (xs : List X) (y : Y) → Contains (map f xs) y
    → (x : X) × Contains xs x × (f x ≡ y)
Contains-from_map f [] y has = absurd (Contains-nil y has)
Contains-from_map f (x ∷ xs) y has =
    elim (Contains-cases (f x) (map f xs) y has) [
      | inl same ↦ (x, Contains-first x xs, same)
      | inr later ↦
          let rest = Contains-from_map f xs y later in
          (rest.0, Contains-later x xs rest.0 rest.1, rest.2)
    ]

-- the element that is found is in the list and passes
pub find_passes : {X : Type 0} (test : X → Bool) (xs : List X) (x : X) → find test xs ≡ Some x → Contains xs x × (test x ≡ true)
find_passes test [] x e = absurd (cc)
find_passes {X} test (y ∷ ys) x e = step (find_passes test ys x) (test y) refl e
  where
    step : (find test ys ≡ Some x → Contains ys x × (test x ≡ true)) → (b : Bool) → test y ≡ b
        → cond b (Some y) (find test ys) ≡ Some x → Contains (y ∷ ys) x × (test x ≡ true)
    step later true passes e =
        let same = same_Some y x e in
        (subst (λ (z : X). Contains (y ∷ ys) z) same (Contains-first y ys), subst (λ (z : X). test z ≡ true) same passes)
    step later false fails e = let rest = later e in (Contains-later y ys x rest.0, rest.1)

-- it comes after elements that don't pass
pub record IsFoundAt {X : Type 0} (test : X → Bool) (xs : List X) (x : X) : Type 0 where
  pub before : List X
  pub following : List X
  pub list : xs ≡ before ++ x ∷ following
  pub passes : test x ≡ true
  pub fails : All (λ y. test y ≡ false) before

pub find-place : {X : Type 0} (test : X → Bool) (xs : List X) (x : X) → find test xs ≡ Some x → IsFoundAt test xs x
find-place test [] x e = absurd (none-some x e)
find-place {X} test (y ∷ ys) x e = step (find-place test ys x) (test y) refl e
  where
    step : (find test ys ≡ Some x → IsFoundAt test ys x) → (b : Bool) → test y ≡ b
        → cond b (Some y) (find test ys) ≡ Some x → IsFoundAt test (y ∷ ys) x
    step later true passes e =
        let same = same_Some y x e in
        record {
          before = [];
          following = ys;
          list = ap (λ (z : X). z ∷ ys) same;
          passes = subst (λ (z : X). test z ≡ true) same passes;
          fails = All-nil (λ z. test z ≡ false);
        }
    step later false fails e =
        let rest = later e in
        record {
          before = y ∷ rest.before;
          following = rest.following;
          list = ap (λ (l : List X). y ∷ l) rest.list;
          passes = rest.passes;
          fails = All-cons (λ z. test z ≡ false) y rest.before fails rest.fails;
        }

-- and the first that passes is found
pub find-first : {X : Type 0} (test : X → Bool) (before following : List X) (x : X) → All (λ y. test y ≡ false) before → test x ≡ true
    → find test (before ++ x ∷ following) ≡ Some x
find-first test [] following x none passes = rw passes
find-first test (y ∷ before) following x none passes =
    rw (All-head (λ y. test y ≡ false) y before none) (find-first test before following x (All-tail (λ y. test y ≡ false) y before none) passes)

-- if none is found, none passes
pub find-fails : {X : Type 0} (test : X → Bool) (xs : List X) → find test xs ≡ None → All (λ x. test x ≡ false) xs
find-fails test [] e = All-nil (λ x. test x ≡ false)
find-fails {X} test (y ∷ ys) e = step (find-fails test ys) (test y) refl e
  where
    step : (find test ys ≡ None → All (λ x. test x ≡ false) ys) → (b : Bool) → test y ≡ b
        → cond b (Some y) (find test ys) ≡ None → All (λ x. test x ≡ false) (y ∷ ys)
    step later true passes e = absurd (none-some y (sym e))
    step later false fails e = All-cons (λ x. test x ≡ false) y ys fails (later e)

-- what is true of each element of two concatenated lists is true of those of each list
pub All-left : {X : Type 0} (P : X → Type 0) (xs ys : List X) → All P (xs ++ ys) → All P xs
All-left P [] ys h = All-nil P
All-left P (x ∷ xs) ys h = All-cons P x xs (All-head P x (xs ++ ys) h) (All-left P xs ys (All-tail P x (xs ++ ys) h))

pub All-right : {X : Type 0} (P : X → Type 0) (xs ys : List X) → All P (xs ++ ys) → All P ys
All-right P [] ys h = h
All-right P (x ∷ xs) ys h = All-right P xs ys (All-tail P x (xs ++ ys) h)

-- none is found if none passes, and none is kept
pub find_none : {X : Type 0} (test : X → Bool) (xs : List X) → All (λ x. test x ≡ false) xs → find test xs ≡ None
find_none test [] none = refl
find_none test (x ∷ xs) none =
    rw (All-head (λ x. test x ≡ false) x xs none) (find_none test xs (All-tail (λ x. test x ≡ false) x xs none))

pub filter_none : {X : Type 0} (test : X → Bool) (xs : List X) → All (λ x. test x ≡ false) xs → filter test xs ≡ []
filter_none test [] none = refl
filter_none test (x ∷ xs) none =
    rw (All-head (λ x. test x ≡ false) x xs none) (filter_none test xs (All-tail (λ x. test x ≡ false) x xs none))

-- if an element passes, and all that pass have its value, that value is found
pub find_alike : {X Y : Type 0} (f : X → Y) (test : X → Bool) (xs : List X) (x : X) → Contains xs x → test x ≡ true
    → ((z : X) → Contains xs z → test z ≡ true → f z ≡ f x) → option_map f (find test xs) ≡ Some (f x)
find_alike f test [] x has passes alike = absurd (Contains-nil x has)
find_alike {X} f test (y ∷ ys) x has passes alike =
    step (λ later. find_alike f test ys x later passes (λ z among. alike z (Contains-later y ys z among))) (test y) refl
  where
    step : (Contains ys x → option_map f (find test ys) ≡ Some (f x)) → (b : Bool) → test y ≡ b
        → option_map f (cond b (Some y) (find test ys)) ≡ Some (f x)
    step further true here = ap Some (alike y (Contains-first y ys) here)
    step further false fails =
        elim (Contains-cases y ys x has) [
          | inl same ↦ absurd (both_ways (test y) fails (subst (λ (z : X). test z ≡ true) (sym same) passes))
          | inr later ↦ further later
        ]

-- of elements that are distinct by a test, two that the test considers equal are equal
pub distinct_same : {X : Type 0} (same : X → X → Bool) (xs : List X) (x y : X) → IsDistinct same xs → Contains xs x → Contains xs y
    → same x y ≡ true → same y x ≡ true → x ≡ y
distinct_same same [] x y distinct has has' e e' = absurd (Contains-nil x has)
distinct_same {X} same (z ∷ zs) x y distinct has has' e e' =
    let apart = All-from_recursion (λ w. same z w ≡ false) zs (IsDistinct-head same z zs distinct) in
    elim (Contains-cases z zs x has) [
      | inl first ↦ elim (Contains-cases z zs y has') [
        | inl first' ↦ sym first ∙ first'
        | inr later' ↦ absurd (both_ways (same z y) (All-contains (λ w. same z w ≡ false) zs y apart later')
            (subst (λ (w : X). same w y ≡ true) (sym first) e))
      ]
      | inr later ↦ elim (Contains-cases z zs y has') [
        | inl first' ↦ absurd (both_ways (same z x) (All-contains (λ w. same z w ≡ false) zs x apart later)
            (subst (λ (w : X). same w x ≡ true) (sym first') e'))
        | inr later' ↦ distinct_same same zs x y (IsDistinct-tail same z zs distinct) later later' e e'
      ]
    ]
