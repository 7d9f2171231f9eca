-- The columns are widened for the names before the index, and are still to be widened for the others and those of the totals.
use Rattle.std.proofs.Common.{◌≡◌, ◌++◌, ◌∷◌, [], drop, length, map}
use Rattle.std.specs.Prelude.{codes}
use Rattle.flow_uniq.specs.Key.{field_name}
use Rattle.pmap_print.specs.Table.{widened}
use Rattle.pmap_print.specs.Reports.{group_titles}
use Rattle.pmap_print.proofs.columns.Columns.add_titles.Given as goal

abbrev pub invariant-loop-index : goal.invariant-loop-index
invariant-loop-index l = record {
  long : length l.self.widths.items ≡ length l.initial.self.widths.items;
  wide : widened l.self.widths.items l.index (map field_name (drop l.index l.fields) ++ codes "records" ∷ codes "packets" ∷ codes "bytes" ∷ [])
      ≡ widened l.initial.self.widths.items 0 (group_titles l.fields);
}
