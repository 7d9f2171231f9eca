-- The parts so far are printed, and the other parts and the totals follow.
use Rattle.std.proofs.Common.{◌≡◌, ◌++◌, ◌∷◌, [], length, map}
use Rattle.std.specs.Prelude.{decimal}
use Rattle.flow_io.specs.Devices.{OutputView}
use Rattle.flow_uniq.specs.Inner.{group_model, key_model}
use Rattle.pmap_print.specs.Table.{filled_by, line_text}
use Rattle.pmap_print.specs.Reports.{group_fields, part_text}
use Rattle.pmap_print.proofs.groups.print_group.Given as goal

abbrev pub invariant-loop-part : goal.invariant-loop-part
invariant-loop-part g l =
    ((g.S.Sink.sink l.out).printed
    ++ line_text (filled_by l.rest (map part_text (key_model l.key)
    ++ decimal l.group.totals.records ∷ decimal l.group.totals.packets ∷ decimal l.group.totals.octets ∷ []))
    ≡ (g.S.Sink.sink l.initial.out).printed ++ line_text (filled_by l.widths (group_fields (group_model l.group))))
    × ((g.S.Sink.sink l.out).reference ≡ (g.S.Sink.sink l.initial.out).reference)
    × ((first : OutputView) → g.S.Sink.began first l.initial.out → g.S.Sink.began first l.out)

abbrev pub decreases-loop-part : goal.decreases-loop-part
decreases-loop-part g l = length (key_model l.key)
