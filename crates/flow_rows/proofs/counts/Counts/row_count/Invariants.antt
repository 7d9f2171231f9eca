-- The count, with the second rows of the records that are left, is that of all rows.
use Rattle.std.proofs.Common.{◌≡◌, ◌+◌, is_some, length}
use Rattle.std.specs.Prelude.{count_by}
use Rattle.flow_rows.specs.Elements.{second_row}
use Rattle.flow_rows.proofs.counts.Counts.row_count.Given as goal

abbrev pub invariant-loop-source : goal.invariant-loop-source
invariant-loop-source l =
    l.count + count_by (λ r. is_some (second_row r)) l.source-iterator ≡ length l.records + count_by (λ r. is_some (second_row r)) l.records
