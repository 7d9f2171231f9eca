use Rattle.std.proofs.Common.{Bool, true, false, List, ◌∙◌}
use Rattle.std.proofs.lemmas.List.Sorted.{All-permutation, IsPermutation-map, sum_by-IsPermutation}
use Rattle.std.proofs.lemmas.Map.Keys.{IsDistinct-IsPermutation}
use Rattle.flow_rows.specs.Elements.{RowView}
use Rattle.flow_uniq.specs.Key.{Key, key_of, same_key}
use Rattle.flow_uniq.specs.Groups.{GroupModel, groups_of, is_before, shown_groups}
use Rattle.flow_uniq.specs.Laws.{DivideRows, SumsItsRows}
use Rattle.flow_uniq.proofs.Dividing.{groups-divide}
use Rattle.flow_uniq.proofs.Grouping.{same_key-equiv}
use Rattle.pmap_model.specs.Sorting.{in_order}
use Rattle.pmap_model.proofs.Sorting.{same-in_order}
use Rattle.flow_uniq.proofs.laws.groups_divide_the_rows.Goals as goal

-- sorted groups divide what the groups divide
divide-sorted : (key : RowView → Key) (rows : List RowView) (groups : List GroupModel) → DivideRows key rows groups → DivideRows key rows (in_order is_before groups)
divide-sorted key rows groups d =
    let same = same-in_order is_before groups in
    record {
      keys = IsDistinct-IsPermutation same_key same_key-equiv.symm _ _ (IsPermutation-map (λ (g : GroupModel). g.key) groups _ same) d.keys;
      each = All-permutation (SumsItsRows key rows) groups (in_order is_before groups) same d.each;
      records = sum_by-IsPermutation (λ (g : GroupModel). g.totals.records) groups _ same ∙ d.records;
      packets = sum_by-IsPermutation (λ (g : GroupModel). g.totals.packets) groups _ same ∙ d.packets;
      octets = sum_by-IsPermutation (λ (g : GroupModel). g.totals.octets) groups _ same ∙ d.octets;
    }

pub returns : goal.returns
returns c fields label sorted rows = by sorted
  where
    key : RowView → Key
    key = key_of label fields

    by : (b : Bool) → DivideRows key rows (shown_groups b (groups_of fields label rows))
    by true = divide-sorted key rows (groups_of fields label rows) (groups-divide fields label rows)
    by false = groups-divide fields label rows
