use Rattle.std.proofs.Common.{◌≡◌, ◌++◌, map}
use Rattle.std.specs.List.{flat_map}
use Rattle.flow_io.specs.Devices.{OutputView}
use Rattle.pmap_print.specs.Reports.{ordered}
use Rattle.pmap_print.specs.Table.{filled_by, line_text}
use Rattle.pmap_print.proofs.GroupLines.{first_lines}
use Rattle.pmap_print.proofs.groups.print_lines.Given as goal

-- the lines of the header and of the groups before the index are printed
abbrev pub invariant-loop-index : goal.invariant-loop-index
invariant-loop-index g l =
    ((g.S.Sink.sink l.out).printed ≡ (g.S.Sink.sink l.fn.out).printed
    ++ flat_map line_text (map (filled_by l.widths) (first_lines l.groups.fields (ordered l.sorted l.groups) l.index)))
    × ((g.S.Sink.sink l.out).reference ≡ (g.S.Sink.sink l.fn.out).reference)
    × ((first : OutputView) → g.S.Sink.began first l.fn.out → g.S.Sink.began first l.out)
