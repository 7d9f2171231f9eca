-- The count, with the rows without bytes that are left, is that of all rows.
use Rattle.std.proofs.Common.{◌≡◌, ◌+◌, None, length}
use Rattle.std.specs.Prelude.{count_by}
use Rattle.flow_rows.specs.Counts.{has_no_bytes}
use Rattle.flow_rows.specs.Walk.{HaveRows, rows_to_come}
use Rattle.flow_rows.proofs.walk.SetRows.count_without_bytes.Given as goal

abbrev pub invariant-loop-row : goal.invariant-loop-row
invariant-loop-row l = record {
  have : HaveRows l.self l.last;
  counted : l.count + count_by has_no_bytes (rows_to_come l.self l.last) ≡ count_by has_no_bytes (rows_to_come l.fn.self None);
}

abbrev pub decreases-loop-row : goal.decreases-loop-row
decreases-loop-row l = length (rows_to_come l.self l.last)
