use Rattle.std.proofs.Common.{◌≡◌, Some, map}
use Rattle.flow_filter.specs.Condition.{item_test}
use Rattle.flow_filter.specs.Filters.{by_range}
use Rattle.prefix_keys.specs.Text.{all_some}
use Rattle.flow_filter.proofs.items.read_ranges.Given as goal

-- the tests of the items so far are those of the ranges
abbrev pub invariant-loop-item : goal.invariant-loop-item
invariant-loop-item l =
    all_some (map (item_test l.option) (map (λ x. x.now) l.yielded)) ≡ Some (map (by_range l.option) l.ranges.items)
