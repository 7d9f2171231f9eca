use Rattle.std.proofs.Common.{ℕ, ◌≡◌, ◌++◌}
use Rattle.flow_io.specs.Devices.{OutputView}
use Rattle.pmap_print.specs.Table.{Fits, Line, Text, sized}
use Rattle.pmap_print.proofs.Spreading.{IsPushed}
use Rattle.pmap_print.proofs.columns.Columns.print_line.Given as goal

-- the fields before the index are printed
abbrev pub invariant-loop-i : goal.invariant-loop-i
invariant-loop-i g l =
    ((width : ℕ → ℕ) (fields : Line) (more : Text) → Fits width l.self.widths.items fields → l.text ≡ sized fields ++ more
    → IsPushed width fields more (g.S.Sink.sink l.initial.out).printed l.i l.rest (g.S.Sink.sink l.out).printed)
    × ((g.S.Sink.sink l.out).reference ≡ (g.S.Sink.sink l.initial.out).reference)
    × ((first : OutputView) → g.S.Sink.began first l.initial.out → g.S.Sink.began first l.out)
