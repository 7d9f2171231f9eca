use Rattle.std.proofs.Common.{◌≡◌, ◌≤◌, ◌<◌, ℕ, get_or, length}
use Rattle.std.specs.List.Sorted.{IsNonDecreasingBy}
use Rattle.flow_filter.specs.Condition.{Range}
use Rattle.flow_filter.specs.Filters.{in_ranges}
use Rattle.flow_filter.proofs.ranges.sort_ranges.Given as goal

-- the ranges before the index are extended, and the same numbers are in one of the ranges
abbrev pub invariant-loop-at : goal.invariant-loop-at
invariant-loop-at l = record {
  same : in_ranges l.ranges.items ≡ in_ranges l.initial.ranges.items;
  long : length l.ranges.items ≡ length l.initial.ranges.items;
  low : IsNonDecreasingBy (λ (r : Range). r.low) l.ranges.items;
  high : (i j : ℕ) (d : Range) → i ≤ j → j < l.at → (get_or l.ranges.items i d).high ≤ (get_or l.ranges.items j d).high;
}
