-- The lines of the header and of the rows before the index are added.
use Rattle.std.proofs.Common.{◌≡◌, ◌+◌, is_some, take}
use Rattle.pmap_print.specs.Table.{IsTable, has_columns}
use Rattle.pmap_print.specs.Reports.{column_count}
use Rattle.pmap_print.proofs.RowLines.{lines_of}
use Rattle.pmap_print.proofs.rows.print_rows.Given as goal

abbrev pub invariant-loop-i : goal.invariant-loop-i
invariant-loop-i l = record {
  lines : IsTable (column_count (is_some l.fn.labels)) (take (l.i + 1) (lines_of l.rows l.fn.labels)) l.table;
  columns : has_columns l.table ≡ l.columns;
}
