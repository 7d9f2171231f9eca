-- The last mapping that passes a test.
use Rattle.std.proofs.Common.{◌≡◌, Bool, true, false, cond, ◌⊎◌, List, [], ◌∷◌, ◌++◌, Option, Some, None, arith, sym, refl, ap, ◌∙◌, subst, inl, inr}
use Rattle.std.proofs.lemmas.Bool.{both_ways, false_from_ne_true}
use Rattle.std.specs.Option.{option_or}
use Rattle.pmap_model.specs.MapModel.{Mapping, last_such}

-- how the last mapping that passes is found: further on, or here if none further on passes
pub last_such-cases : (test : Mapping → Bool) (m : Mapping) (ms : List Mapping) (s : Mapping) →
    last_such test (m ∷ ms) ≡ Some s →
    (last_such test ms ≡ Some s) ⊎ ((last_such test ms ≡ None) × (test m ≡ true) × (m ≡ s))
last_such-cases test m ms s e = grind arith

-- the last mapping that passes a test passes it
pub last_such-passes : (test : Mapping → Bool) (ms : List Mapping) (s : Mapping) → last_such test ms ≡ Some s → test s ≡ true
last_such-passes test [] s e = cc
last_such-passes test (m ∷ ms) s e =
    elim (last_such-cases test m ms s e) [
      | inl h ↦ last_such-passes test ms s h
      | inr h ↦ subst (λ (t : Mapping). test t ≡ true) h.2 h.1
    ]

-- if none passes, neither the first nor a later one does
pub last_such-none_cases : (test : Mapping → Bool) (m : Mapping) (ms : List Mapping) → last_such test (m ∷ ms) ≡ None →
    (last_such test ms ≡ None) × (test m ≡ false)
last_such-none_cases test m ms e = grind arith

-- if none passes a test, none passes a stronger one
pub last_such-none : (weak strong : Mapping → Bool) → ((m : Mapping) → strong m ≡ true → weak m ≡ true) → (ms : List Mapping) →
    last_such weak ms ≡ None → last_such strong ms ≡ None
last_such-none weak strong weaker [] e = refl
last_such-none weak strong weaker (m ∷ ms) e =
    let h = last_such-none_cases weak m ms e in
    let ih : last_such strong ms ≡ None = last_such-none weak strong weaker ms h.0 in
    let here : strong m ≡ false = false_from_ne_true (strong m) (λ t. both_ways (weak m) h.1 (weaker m t)) in
    rw (ih, here)

-- if the last that passes a test passes a stronger one, it is the last that does
pub last_such-some : (weak strong : Mapping → Bool) → ((m : Mapping) → strong m ≡ true → weak m ≡ true) →
    (ms : List Mapping) (s : Mapping) → last_such weak ms ≡ Some s → strong s ≡ true → last_such strong ms ≡ Some s
last_such-some weak strong weaker [] s e passes = cc
last_such-some weak strong weaker (m ∷ ms) s e passes =
    elim (last_such-cases weak m ms s e) [
      | inl h ↦ let ih : last_such strong ms ≡ Some s = last_such-some weak strong weaker ms s h passes in rw ih
      | inr h ↦
          let ih : last_such strong ms ≡ None = last_such-none weak strong weaker ms h.0 in
          let here : strong m ≡ true = subst (λ (t : Mapping). strong t ≡ true) (sym h.2) passes in
          rw (ih, here) (ap Some h.2)
    ]

or_cond : (b : Bool) (m : Mapping) (o e : Option Mapping) → option_or (cond b (Some m) o) e ≡ cond b (Some m) (option_or o e)
or_cond true m o e = refl
or_cond false m o e = refl

-- with one more mapping at the end it is that one, if it passes
pub last_such-push : (test : Mapping → Bool) (ms : List Mapping) (m : Mapping) →
    last_such test (ms ++ m ∷ []) ≡ cond (test m) (Some m) (last_such test ms)
last_such-push test [] m = refl
last_such-push test (x ∷ ms) m =
    ap (λ o. option_or o (cond (test x) (Some x) None)) (last_such-push test ms m)
    ∙ or_cond (test m) m (last_such test ms) (cond (test x) (Some x) None)
