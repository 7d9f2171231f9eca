-- The names of the fields before the index are printed, and the other names and those of the totals follow.
use Rattle.std.proofs.Common.{◌≡◌, ◌++◌, ◌∷◌, [], drop, map}
use Rattle.std.specs.Prelude.{codes}
use Rattle.flow_io.specs.Devices.{OutputView}
use Rattle.flow_uniq.specs.Key.{field_name}
use Rattle.pmap_print.specs.Table.{filled_by, line_text}
use Rattle.pmap_print.specs.Reports.{group_titles}
use Rattle.pmap_print.proofs.groups.print_header.Given as goal

abbrev pub invariant-loop-field : goal.invariant-loop-field
invariant-loop-field g l =
    ((g.S.Sink.sink l.out).printed
    ++ line_text (filled_by l.rest (map field_name (drop l.field-index l.fields) ++ codes "records" ∷ codes "packets" ∷ codes "bytes" ∷ []))
    ≡ (g.S.Sink.sink l.initial.out).printed ++ line_text (filled_by l.widths (group_titles l.fields)))
    × ((g.S.Sink.sink l.out).reference ≡ (g.S.Sink.sink l.initial.out).reference)
    × ((first : OutputView) → g.S.Sink.began first l.initial.out → g.S.Sink.began first l.out)
