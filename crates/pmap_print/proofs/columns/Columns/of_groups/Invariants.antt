use Rattle.std.proofs.Common.{◌+◌, length}
use Rattle.pmap_print.specs.Reports.{ordered}
use Rattle.pmap_print.specs.Table.{AreWide}
use Rattle.pmap_print.proofs.GroupLines.{first_lines}
use Rattle.pmap_print.proofs.columns.Columns.of_groups.Given as goal

-- the columns are as wide as the header and the lines of the groups before the index
abbrev pub invariant-loop-index : goal.invariant-loop-index
invariant-loop-index l =
    AreWide (length l.groups.fields + 3) (first_lines l.groups.fields (ordered l.sorted l.groups) l.index) l.columns
