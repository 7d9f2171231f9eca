-- The header and the lines before the index are printed, but for the last line feed.
use Rattle.std.proofs.Common.{◌≡◌, ◌++◌, ◌∷◌, []}
use Rattle.std.specs.List.{flat_map}
use Rattle.flow_io.specs.Devices.{OutputView}
use Rattle.pmap_print.specs.Table.{line_text}
use Rattle.pmap_print.proofs.MessageLines.{first_lines}
use Rattle.pmap_print.proofs.messages.MessagesTextPrintable.print.Given as goal

abbrev pub invariant-loop-line : goal.invariant-loop-line
invariant-loop-line g l =
    ((g.S.Sink.sink l.out).printed ++ 10 ∷ []
    ≡ (g.S.Sink.sink l.fn.out).printed ++ flat_map line_text (first_lines l.line-items l.line-index))
    × ((g.S.Sink.sink l.out).reference ≡ (g.S.Sink.sink l.fn.out).reference)
    × ((first : OutputView) → g.S.Sink.began first l.fn.out → g.S.Sink.began first l.out)
