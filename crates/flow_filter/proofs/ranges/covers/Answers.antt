use Rattle.std.proofs.Common.{◌≡◌, ◌≤◌, ◌-◌, ◌&&◌, Bool, true, false, List, leb, ltb, get_or, length, refl, ℕ, arith, rules}
use Rattle.std.specs.List.Sorted.{IsPartitionPoint}
use Rattle.std.proofs.lemmas.Bool.Decides.{nat_tests}
use Rattle.std.proofs.lemmas.List.Elements.{All-from_get_or}
use Rattle.std.proofs.lemmas.List.Folds.{list_any_at, list_any_none}
use Rattle.std.proofs.lemmas.List.Sorted.{IsPartitionPoint-from_clause, IsPartitionedBy-leb}
use Rattle.flow_filter.specs.Condition.{Range, in_range}
use Rattle.flow_filter.specs.Filters.{AreAscending, in_ranges}
use Rattle.flow_filter.proofs.ranges.covers.Goals as goal
use Rattle.flow_filter.proofs.ranges.covers.Goals.{After-partition_point-begun}

-- if a range has the number, so has the last that begins at it or below
last_has : (rs : List Range) (n begun : ℕ) (d : Range) → AreAscending rs → begun ≤ length rs
    → IsPartitionPoint (λ (r : Range). leb r.low n ≡ true) (λ (r : Range). leb r.low n ≡ false) rs begun
    → in_ranges rs n ≡ (ltb 0 begun && leb n (get_or rs (begun - 1) d).high)
last_has rs n begun d ascending bound point = by (ltb 0 begun && leb n (get_or rs (begun - 1) d).high) refl
  where
    by : (b : Bool) → (ltb 0 begun && leb n (get_or rs (begun - 1) d).high) ≡ b → in_ranges rs n ≡ b
    by true h = list_any_at (in_range n) rs (begun - 1) d (grind (arith, nat_tests)) (grind (arith, nat_tests, point.0 (begun - 1) d))
    by false h =
        list_any_none (in_range n) rs
        (All-from_get_or (λ r. in_range n r ≡ false) rs d
        (λ i within. grind (arith, nat_tests, point.1 i d, ascending.1 i (begun - 1) d)))

searched : (c : After-partition_point-begun) (d : Range)
    → in_ranges c.args.ranges.now c.args.number
    ≡ (ltb 0 c.partition_point-begun.result && leb c.args.number (get_or c.args.ranges.now (c.partition_point-begun.result - 1) d).high)
searched c d =
    last_has c.args.ranges.now c.args.number c.partition_point-begun.result d c.requires c.partition_point-begun.ensures.bound
    (IsPartitionPoint-from_clause (λ (r : Range). leb r.low c.args.number) c.args.ranges.now c.partition_point-begun.result
    c.partition_point-begun.ensures.partitioned (IsPartitionedBy-leb (λ (r : Range). r.low) c.args.ranges.now c.args.number c.requires.0)
    (λ x r q k. search rules))

pub returns-then-begun-gt0 : goal.returns-then-begun-gt0
returns-then-begun-gt0 c =
    grind (arith, nat_tests, searched (goal.at.returns-then-begun-gt0 c).After-partition_point-begun (record { low = 0; high = 0 }))

pub returns-else-begun-gt0 : goal.returns-else-begun-gt0
returns-else-begun-gt0 c =
    grind (arith, nat_tests, searched (goal.at.returns-else-begun-gt0 c).After-partition_point-begun (record { low = 0; high = 0 }))
