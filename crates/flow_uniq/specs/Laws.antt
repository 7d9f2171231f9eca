use Rattle.std.specs.Prelude.{◌≡◌, ◌<◌, All, Bool, List, Option, filter, length, map, sum_by}
use Rattle.std.specs.List.{IsDistinct, flat_map}
use Rattle.flow_rows.specs.Elements.{RowView}
use Rattle.prefix_keys.specs.Text.{AddressOf}
use Rattle.pmap_model.specs.MapModel.{Label}
use Rattle.flow_uniq.specs.Key.{Key, KeyField, same_key}
use Rattle.flow_uniq.specs.Groups.{GroupModel, Totals, distinct_keys, groups_of, shown_groups}

-- What makes groups a division of rows.

-- The group's records, packets and bytes are those of exactly the rows that have its key, and there is such a row. The
-- function gives the key of each row.
pub record SumsItsRows (key : RowView → Key) (rows : List RowView) (g : GroupModel) : Type 0 where
  pub own : List RowView
  pub have_its_key : own ≡ filter (λ row. same_key g.key (key row)) rows
  pub some : 0 < length own
  pub records : g.totals.records ≡ length own
  pub packets : g.totals.packets ≡ sum_by (λ row. row.packets) own
  pub octets : g.totals.octets ≡ sum_by (λ row. row.octets) own

-- The keys of the groups are distinct, and each group sums the rows that have its key. The records, packets and bytes
-- of all groups are those of all rows.
pub record DivideRows (key : RowView → Key) (rows : List RowView)
    (groups : List GroupModel) : Type 0 where
  pub keys : IsDistinct same_key (map (λ g. g.key) groups)
  pub each : All (SumsItsRows key rows) groups
  pub records : sum_by (λ g. g.totals.records) groups ≡ length rows
  pub packets : sum_by (λ g. g.totals.packets) groups ≡ sum_by (λ row. row.packets) rows
  pub octets : sum_by (λ g. g.totals.octets) groups ≡ sum_by (λ row. row.octets) rows

-- Groups of several parts of the rows, merged.

-- the totals of the groups that have the key, added up
abbrev pub totals_at : Key → List GroupModel → Totals
totals_at key groups = let own = filter (λ g. same_key key g.key) groups in record {
  records = sum_by (λ g. g.totals.records) own;
  packets = sum_by (λ g. g.totals.packets) own;
  octets = sum_by (λ g. g.totals.octets) own;
}

-- each key of the groups once, in the order of the first groups that have it, with the totals of
-- all groups that have it
abbrev pub merged : List GroupModel → List GroupModel
merged groups =
    map (λ key. record { key = key; totals = totals_at key groups })
    (distinct_keys (map (λ g. g.key) groups))

-- if groups divide each part of the rows, then all these groups, merged, divide all rows
abbrev pub MergedDivide : Type 0
MergedDivide = (key : RowView → Key) (parts : List (List RowView × List GroupModel))
    → All (λ part. DivideRows key part.0 part.1) parts
    → DivideRows key (flat_map (λ part. part.0) parts) (merged (flat_map (λ part. part.1) parts))

-- the groups that are shown of all rows are those that are shown of each part of the rows, merged
abbrev pub MergedAreAll : Type 0
MergedAreAll = (fields : List KeyField) (label : AddressOf → Option Label) (sorted : Bool)
    (parts : List (List RowView))
    → let shown : List RowView → List GroupModel = λ rows.
    shown_groups sorted (groups_of fields label rows) in
    shown (flat_map (λ rows. rows) parts) ≡ shown_groups sorted (merged (flat_map shown parts))
