use Rattle.std.proofs.Common.{◌≡◌, ◌<◌, ◌≤◌, ◌+◌, ◌-◌, ◌||◌, List, [], ◌∷◌, ℕ, zero, suc, get_or, length, max, refl, sym, ap, subst, ◌∙◌, arith, rules}
use Rattle.std.proofs.Math.ListN.{set}
use Rattle.std.specs.List.Sorted.{IsNonDecreasingBy}
use Rattle.std.proofs.lemmas.Bool.{cases_eq}
use Rattle.std.proofs.lemmas.Bool.Decides.{nat_tests}
use Rattle.std.proofs.lemmas.Grind.{common_steps}
use Rattle.std.proofs.lemmas.List.{get_or_default, get_or-set_same, get_or-set_other}
use Rattle.std.proofs.lemmas.List.Sorted.{IsNonDecreasingBy-from_sort_by_key, list_any-IsPermutation}
use Rattle.flow_filter.specs.Condition.{Range, in_range}
use Rattle.flow_filter.specs.Filters.{in_ranges}
use Rattle.flow_filter.proofs.ranges.sort_ranges.Goals as goal

-- a range that is extended to the end of the range before it, which begins at or below it, adds no number
same_set : (rs : List Range) (k n : ℕ) (r p q : Range) → suc k < length rs → p ≡ get_or rs k p → q ≡ get_or rs (suc k) q
    → p.low ≤ q.low → r.low ≡ q.low → r.high ≡ max q.high p.high → in_ranges (set rs (suc k) r) n ≡ in_ranges rs n
same_set [] k n r p q within at next low begin end = absurd (omega arith)
same_set (a ∷ []) k n r p q within at next low begin end = absurd (omega arith)
same_set (a ∷ b ∷ rs) zero n r p q within at next low begin end = grind (arith, nat_tests)
same_set (a ∷ b ∷ rs) (suc k) n r p q within at next low begin end =
    ap (λ x. in_range n a || x) (same_set (b ∷ rs) k n r p q (omega (arith, within)) at next low begin end)

low_set : (rs : List Range) (k : ℕ) (r q : Range) → k < length rs → q ≡ get_or rs k q → r.low ≡ q.low
    → IsNonDecreasingBy (λ (r : Range). r.low) rs → IsNonDecreasingBy (λ (r : Range). r.low) (set rs k r)
low_set rs k r q within at is up i j d le under =
    grind (arith, common_steps, get_or-set_same, get_or-set_other, cases_eq i k, cases_eq j k, get_or_default rs k d q within, up i j d)

high_set : (rs : List Range) (k : ℕ) (r p : Range) → k < length rs → p ≡ get_or rs (k - 1) p → p.high ≤ r.high
    → ((i j : ℕ) (d : Range) → i ≤ j → j < k → (get_or rs i d).high ≤ (get_or rs j d).high)
    → (i j : ℕ) (d : Range) → i ≤ j → j < k + 1 → (get_or (set rs k r) i d).high ≤ (get_or (set rs k r) j d).high
high_set rs k r p within at is up i j d le under =
    grind (arith, common_steps, get_or-set_same, get_or-set_other, cases_eq i k, cases_eq j k, get_or_default rs (k - 1) d p, up i j d, up i (k - 1) d)

pub loop-at-init : goal.loop-at-init
loop-at-init c = record {
  same = refl;
  long = refl;
  low = IsNonDecreasingBy-from_sort_by_key (λ (r : Range). r.low) _ c.sort_unstable_by_key.ensures.sorted (λ a r q k. search rules);
  high = λ i j d le under. grind arith;
}

pub loop-at-preserved : goal.loop-at-preserved
loop-at-preserved c =
    let rs = c.loop-at.ranges.items in
    let at = c.loop-at.at in
    let p : Range = c.index-in-loop-at.result.now in
    let q : Range = c.index.result.now in
    let r : Range = record { low = c.index_mut.result.now.low; high = c.max.result } in
    let begin : r.low ≡ q.low = ap (λ (x : Range). x.low) (c.index_mut.ensures.value ∙ get_or_default rs at _ q (omega arith) ∙ sym c.index.ensures) in
    let lower : p.low ≤ q.low = grind (arith, get_or_default rs (at - 1) p q, c.loop-at.invariant.low (at - 1) at q) in
    record {
      same = (λ i n. subst (λ j. q ≡ get_or rs j q → in_ranges (set rs j r) n ≡ in_ranges rs n) (omega arith)
          (λ next. same_set rs (at - 1) n r p q (omega arith) c.index-in-loop-at.ensures next lower begin (omega arith)) c.index.ensures i)
          ∙ c.loop-at.invariant.same;
      long = grind (arith, common_steps);
      low = low_set rs at r q (omega arith) c.index.ensures begin c.loop-at.invariant.low;
      high = high_set rs at r p (omega arith) c.index-in-loop-at.ensures (omega arith) c.loop-at.invariant.high;
    }

pub returns-clause-same : goal.returns-clause-same
returns-clause-same c = c.loop-at.invariant.same ∙ (λ i n. sym (list_any-IsPermutation (in_range n) _ _ c.sort_unstable_by_key.ensures.permutation) i)

pub returns-clause-ascending : goal.returns-clause-ascending
returns-clause-ascending c = (c.loop-at.invariant.low, λ i j d le within. c.loop-at.invariant.high i j d le (omega arith))
