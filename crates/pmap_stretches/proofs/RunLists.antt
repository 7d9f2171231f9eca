-- Each labelling of addresses has one list of runs.
use Rattle.std.proofs.Common.{◌≡◌, ◌≢◌, ℕ, zero, suc, ◌+◌, ◌-◌, ◌<◌, ◌≤◌, ◌⊎◌, inl, inr, Bool, true, false, List, [], ◌∷◌, Option, Some, None, refl, sym, ◌∙◌, ap, subst, arith}
use Rattle.std.specs.Str.{bytes_eq}
use Rattle.std.proofs.lemmas.Bool.{both_ways, cases_lt, cases_eq}
use Rattle.std.proofs.lemmas.Slice.Eq.{bytes_eq-Decides}
use Rattle.pmap_model.specs.MapModel.{Label}
use Rattle.pmap_stretches.specs.Runs.{AreRuns, HasOneLabel, Run}

-- two labels, or missing labels, are equal or not
text-cases : (x y : Label) → (b : Bool) → bytes_eq x y ≡ b → (Some x ≡ Some y) ⊎ (Some x ≢ Some y)
text-cases x y true e = inl (ap Some ((bytes_eq-Decides x y).0 e))
text-cases x y false e = inr (λ same. both_ways (bytes_eq x y) e ((bytes_eq-Decides x y).1 cc))

label-cases : (x y : Option Label) → (x ≡ y) ⊎ (x ≢ y)
label-cases None None = inl refl
label-cases None (Some y) = inr (λ e. let h : None ≡ Some y = e in cc)
label-cases (Some x) None = inr (λ e. let h : Some x ≡ None = e in cc)
label-cases (Some x) (Some y) = text-cases x y (bytes_eq x y) refl

-- runs end after they begin
pub ordered : (f : ℕ → Option Label) (from to : ℕ) (rs : List Run) → AreRuns f from to rs → from ≤ to
ordered f from to [] are = omega (arith, are)
ordered f from to (r ∷ rs) are = omega (arith, are.0, are.1.some, ordered f (r.high + 1) to rs are.3)

-- the label of a run is that of its first address
pub first-label : (f : ℕ → Option Label) (r : Run) → HasOneLabel f r → f r.low ≡ r.label
first-label f r one = one.each r.low (omega arith) one.some

-- if two lists of runs begin at one address, the first run of neither is longer
not_shorter : (f : ℕ → Option Label) (from to : ℕ) (r s : Run) (rs ss : List Run) → AreRuns f from to (r ∷ rs) → AreRuns f from to (s ∷ ss)
    → r.high < s.high → ⊥
not_shorter f from to r s rs ss ar bs h =
    let same_low : r.low ≡ s.low = ar.0 ∙ sym bs.0 in
    let inside : f (r.high + 1) ≡ s.label = bs.1.each (r.high + 1) (omega (arith, ar.1.some, same_low)) (omega (arith, h)) in
    ar.2 (omega (arith, h, ordered f (s.high + 1) to ss bs.3))
    (inside ∙ sym (first-label f s bs.1) ∙ ap f (sym same_low) ∙ first-label f r ar.1)

-- there is only one list of runs
pub runs-one : (f : ℕ → Option Label) (from to : ℕ) (rs ss : List Run) → AreRuns f from to rs → AreRuns f from to ss → rs ≡ ss
runs-one f from to [] [] ar bs = refl
runs-one f from to [] (s ∷ ss) ar bs = absurd (omega (arith, ar, bs.0, bs.1.some, ordered f (s.high + 1) to ss bs.3))
runs-one f from to (r ∷ rs) [] ar bs = absurd (omega (arith, bs, ar.0, ar.1.some, ordered f (r.high + 1) to rs ar.3))
runs-one f from to (r ∷ rs) (s ∷ ss) ar bs = by (runs-one f (r.high + 1) to rs ss ar.3) (cases_lt r.high s.high) (cases_lt s.high r.high)
  where
    low : r.low ≡ s.low
    low = ar.0 ∙ sym bs.0

    label : r.label ≡ s.label
    label = sym (first-label f r ar.1) ∙ ap f low ∙ first-label f s bs.1

    by : (AreRuns f (r.high + 1) to ss → rs ≡ ss) → (r.high < s.high) ⊎ (s.high ≤ r.high) → (s.high < r.high) ⊎ (r.high ≤ s.high) → (r ∷ rs) ≡ (s ∷ ss)
    by ih (inl less) other = absurd (not_shorter f from to r s rs ss ar bs less)
    by ih (inr ge) (inl more) = absurd (not_shorter f from to s r ss rs bs ar more)
    by ih (inr ge) (inr le) =
        let high : r.high ≡ s.high = omega (arith, ge, le) in
        let head : r ≡ s = λ i. record { low = low i; high = high i; label = label i } in
        let rest : AreRuns f (r.high + 1) to ss = subst (λ h. AreRuns f (h + 1) to ss) (sym high) bs.3 in
        ap (λ (h : Run). h ∷ rs) head ∙ ap (λ (t : List Run). s ∷ t) (ih rest)

-- two labellings that agree at each address have the same runs
pub runs-alike : (f g : ℕ → Option Label) (from to : ℕ) (rs : List Run) → ((a : ℕ) → a < to → f a ≡ g a)
    → AreRuns f from to rs → AreRuns g from to rs
runs-alike f g from to [] same are = are
runs-alike f g from to (r ∷ rs) same are =
    let end = ordered f (r.high + 1) to rs are.3 in (
      are.0,
      record { some = are.1.some; each = λ a from_low to_high. sym (same a (omega (arith, end, to_high))) ∙ are.1.each a from_low to_high },
      λ less equal. are.2 less (same (r.high + 1) less ∙ equal),
      runs-alike f g (r.high + 1) to rs same are.3,
    )

-- the run of one address
one_address-label : (f : ℕ → Option Label) (a : ℕ) → HasOneLabel f (record { low = a; high = a; label = f a })
one_address-label f a = record { some = omega arith; each = λ b ge le. ap f (omega (arith, ge, le)) }

-- a run that begins one address earlier
longer-inside : (f : ℕ → Option Label) (from : ℕ) (r : Run) → r.low ≡ from + 1 → HasOneLabel f r → f from ≡ r.label
    → (a : ℕ) → from ≤ a → a ≤ r.high → (a ≡ from) ⊎ (a ≡ from → ⊥) → f a ≡ r.label
longer-inside f from r begins one same a ge le (inl e) = ap f e ∙ same
longer-inside f from r begins one same a ge le (inr ne) = one.each a (omega (arith, begins, ge, ne)) le

longer-label : (f : ℕ → Option Label) (from : ℕ) (r : Run) → r.low ≡ from + 1 → HasOneLabel f r → f from ≡ r.label
    → HasOneLabel f (record { low = from; high = r.high; label = r.label })
longer-label f from r begins one same = record {
  some = omega (arith, begins, one.some);
  each = λ a ge le. longer-inside f from r begins one same a ge le (cases_eq a from);
}

-- the runs from an address on, from those after it
runs-before : (f : ℕ → Option Label) (from to : ℕ) (r : Run) (rs : List Run) → AreRuns f (from + 1) to (r ∷ rs)
    → (f from ≡ r.label) ⊎ (f from ≢ r.label) → (ss : List Run) × AreRuns f from to ss
runs-before f from to r rs are (inr other) = (
  record { low = from; high = from; label = f from } ∷ r ∷ rs,
  (refl, one_address-label f from, λ less equal. other (sym equal ∙ ap f (sym are.0) ∙ first-label f r are.1), are),
)
runs-before f from to r rs are (inl same) = (
  record { low = from; high = r.high; label = r.label } ∷ rs,
  (refl, longer-label f from r are.0 are.1 same, are.2, are.3),
)

runs-more : (f : ℕ → Option Label) (from to : ℕ) (rs : List Run) → AreRuns f (from + 1) to rs → (ss : List Run) × AreRuns f from to ss
runs-more f from to [] are = (record { low = from; high = from; label = f from } ∷ [], (refl, one_address-label f from, λ less. absurd (omega (arith, less, are)), are))
runs-more f from to (r ∷ rs) are = runs-before f from to r rs are (label-cases (f from) r.label)

-- each labelling has runs
runs-count : (f : ℕ → Option Label) (count from : ℕ) → (rs : List Run) × AreRuns f from (from + count) rs
runs-count f zero from = ([], omega arith)
runs-count f (suc count) from =
    let rest = runs-count f count (from + 1) in
    let end : from + 1 + count ≡ from + suc count = omega arith in
    runs-more f from (from + suc count) rest.0 (subst (λ to. AreRuns f (from + 1) to rest.0) end rest.1)

pub runs-exist : (f : ℕ → Option Label) (from to : ℕ) → from ≤ to → (rs : List Run) × AreRuns f from to rs
runs-exist f from to le =
    let found = runs-count f (to - from) from in
    let end : from + (to - from) ≡ to = omega (arith, le) in
    (found.0, subst (λ to. AreRuns f from to found.0) end found.1)
