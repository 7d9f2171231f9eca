use Rattle.std.proofs.Common.{◌≡◌, Bool, true, false, cond, List, [], ◌∷◌, Option, Some, filter, find, slice_get, ◌++◌, refl, ap₂, ◌∙◌, sym, true≢false}
use Rattle.std.specs.List.{AllByRecursion}
use Rattle.std.proofs.lemmas.List.Elements.{filter-append}

-- Filters of lists, and the first element that passes a test.

-- the first element that passes is the first that the filter keeps
pub find-filter : {X : Type 0} (test : X → Bool) (xs : List X) → find test xs ≡ slice_get (filter test xs) 0
find-filter test [] = refl
find-filter test (x ∷ xs) = step (test x) x (filter test xs) (find test xs) (find-filter test xs)
  where
    step : {X : Type 0} (b : Bool) (x : X) (ys : List X) (o : Option X) → o ≡ slice_get ys 0 →
        cond b (Some x) o ≡ slice_get (cond b (x ∷ ys) ys) 0
    step true x ys o e = refl
    step false x ys o e = e

-- filtering by a weaker test first changes nothing for a stronger one
pub filter-filter : {X : Type 0} (weak strong : X → Bool) → ((x : X) → strong x ≡ true → weak x ≡ true) →
    (xs : List X) → filter strong (filter weak xs) ≡ filter strong xs
filter-filter weak strong weaker [] = refl
filter-filter weak strong weaker (x ∷ xs) =
    step weak strong x (filter weak xs) (filter strong xs) (weak x) (strong x) refl (weaker x) (filter-filter weak strong weaker xs)
  where
    step : {X : Type 0} (weak strong : X → Bool) (x : X) (ys zs : List X) (w s : Bool) → strong x ≡ s → (strong x ≡ true → w ≡ true) →
        filter strong ys ≡ zs → filter strong (cond w (x ∷ ys) ys) ≡ cond s (x ∷ zs) zs
    step weak strong x ys zs true true e h ih = rw (e, ih)
    step weak strong x ys zs true false e h ih = rw (e, ih)
    step weak strong x ys zs false true e h ih = absurd (true≢false (sym (h e)))
    step weak strong x ys zs false false e h ih = ih

-- a filter of three joined lists
pub filter-three : {X : Type 0} (test : X → Bool) (a b c a' b' c' : List X) → filter test a ≡ a' → filter test b ≡ b' →
    filter test c ≡ c' → filter test (a ++ (b ++ c)) ≡ a' ++ (b' ++ c')
filter-three test a b c a' b' c' e f g =
    filter-append test a (b ++ c) ∙ ap₂ ◌++◌ e (filter-append test b c ∙ ap₂ ◌++◌ f g)

-- what holds of the elements of two lists holds of those of the joined list
pub all-append : {X : Type 0} (P : X → Type 0) (xs ys : List X) → AllByRecursion P xs → AllByRecursion P ys → AllByRecursion P (xs ++ ys)
all-append P [] ys all more = more
all-append P (x ∷ xs) ys all more = (all.0, all-append P xs ys all.1 more)

pub all-weaker : {X : Type 0} (P Q : X → Type 0) → ((x : X) → P x → Q x) → (xs : List X) → AllByRecursion P xs → AllByRecursion Q xs
all-weaker P Q weaker [] all = tt
all-weaker P Q weaker (x ∷ xs) all = (weaker x all.0, all-weaker P Q weaker xs all.1)
