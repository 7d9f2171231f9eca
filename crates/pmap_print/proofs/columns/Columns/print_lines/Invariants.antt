use Rattle.std.proofs.Common.{ℕ, ◌≡◌, ◌++◌, List, length, true}
use Rattle.std.specs.List.{flat_map}
use Rattle.flow_io.specs.Devices.{OutputView}
use Rattle.pmap_print.specs.Table.{AreWide, Line, column_width, sized, table_text}
use Rattle.pmap_print.proofs.PaddedLines.{AreLeft}
use Rattle.pmap_print.proofs.columns.Columns.print_lines.Given as goal

-- the lines before the rest are printed
abbrev pub invariant-loop-rest : goal.invariant-loop-rest
invariant-loop-rest g l =
    ((count : ℕ) (lines : List Line) → AreWide count lines l.self → l.text ≡ flat_map sized lines
    → AreLeft (column_width lines) l.self.widths.items l.rest (g.S.Sink.sink l.out).printed
    ((g.S.Sink.sink l.initial.out).printed ++ table_text true lines))
    × ((g.S.Sink.sink l.out).reference ≡ (g.S.Sink.sink l.initial.out).reference)
    × ((first : OutputView) → g.S.Sink.began first l.initial.out → g.S.Sink.began first l.out)

abbrev pub decreases-loop-rest : goal.decreases-loop-rest
decreases-loop-rest g l = length l.rest
