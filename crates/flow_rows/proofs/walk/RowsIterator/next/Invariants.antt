-- The rows that are left are those at the call.
use Rattle.std.proofs.Common.{◌≡◌, ◌++◌, [], None, length}
use Rattle.std.specs.Prelude.{MatchOption, option_map, unwrap_or}
use Rattle.std.specs.Slice.Iter.{iter_rest}
use Rattle.flow_rows.specs.Counts.{rows_of_sets}
use Rattle.flow_rows.specs.Walk.{HaveRows, rows_to_come}
use Rattle.flow_rows.proofs.walk.RowsIterator.next.Given as goal

abbrev pub invariant-loop-self : goal.invariant-loop-self
invariant-loop-self l =
    (unwrap_or (option_map (λ set. rows_to_come set l.self-inside.last) l.self-inside.set) [] ++ rows_of_sets (iter_rest l.self-inside.sets) ≡ l.fn.self)
    × MatchOption l.self-inside.set (l.self-inside.last ≡ None) (λ set. HaveRows set l.self-inside.last)

abbrev pub decreases-loop-self : goal.decreases-loop-self
decreases-loop-self l = length (iter_rest l.self-inside.sets)
