-- The columns are widened for the parts so far, and are still to be widened for the others and the totals.
use Rattle.std.proofs.Common.{◌≡◌, ◌+◌, ◌++◌, ◌∷◌, [], length, map}
use Rattle.std.specs.Prelude.{decimal}
use Rattle.flow_uniq.specs.Inner.{group_model, key_model}
use Rattle.pmap_print.specs.Table.{widened}
use Rattle.pmap_print.specs.Reports.{group_fields, part_text}
use Rattle.pmap_print.proofs.columns.Columns.add_group.Given as goal

abbrev pub invariant-loop-part : goal.invariant-loop-part
invariant-loop-part l = record {
  long : length l.self.widths.items ≡ length l.initial.self.widths.items;
  left : l.index + length (key_model l.rest) + 3 ≡ length l.initial.self.widths.items;
  wide : widened l.self.widths.items l.index
      (map part_text (key_model l.rest) ++ decimal l.group.totals.records ∷ decimal l.group.totals.packets ∷ decimal l.group.totals.octets ∷ [])
      ≡ widened l.initial.self.widths.items 0 (group_fields (group_model l.group));
}

abbrev pub decreases-loop-part : goal.decreases-loop-part
decreases-loop-part l = length (key_model l.rest)
