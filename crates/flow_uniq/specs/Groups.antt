use Rattle.std.specs.Prelude.{◌≡◌, ℕ, List, [], ◌∷◌, Option, not, length, map, filter, sum_by, Bool, if◌then◌else◌}
use Rattle.std.specs.Cmp.Lexicographic.{slice_cmp}
use Rattle.std.specs.Ordering.{is_lt}
use Rattle.prefix_keys.specs.Text.{AddressOf}
use Rattle.pmap_model.specs.MapModel.{Label}
use Rattle.pmap_model.specs.Sorting.{in_order}
use Rattle.flow_rows.specs.Elements.{RowView}
use Rattle.flow_uniq.specs.Key.{KeyField, Key, compare_parts, key_of, same_key}
pub use Rattle.flow_uniq.specs.declared.groups.Totals.{Totals}

-- The groups of rows by their keys, and their totals.

-- a group: the key of its rows, and their totals
pub record GroupModel : Type 0 where
  pub key : Key
  pub totals : Totals

-- the number of rows, and the sums of their packets and octets
abbrev pub totals_of : List (Key × RowView) → Totals
totals_of rows = record {
  records = length rows;
  packets = sum_by (λ r. r.1.packets) rows;
  octets = sum_by (λ r. r.1.octets) rows;
}

-- each key once, in the order of the first occurrences
abbrev pub distinct_keys : List Key → List Key
distinct_keys [] = []
distinct_keys (key ∷ keys) = key ∷ filter (λ other. not (same_key key other)) (distinct_keys keys)

-- the groups of rows with these keys: the keys in the order of the first rows with them, each with the totals of all
-- rows with the same key
abbrev pub groups_of_keyed : List (Key × RowView) → List GroupModel
groups_of_keyed rows =
    map (λ key. record { key = key; totals = totals_of (filter (λ r. same_key key r.0) rows) })
    (distinct_keys (map (λ r. r.0) rows))

-- the groups of rows by these fields, if each address has this label
abbrev pub groups_of : List KeyField → (AddressOf → Option Label) → List RowView → List GroupModel
groups_of fields label rows = groups_of_keyed (map (λ row. (key_of label fields row, row)) rows)

-- The order of groups, and groups in this order.

-- whether the group's key is before that of the other: keys compare by their parts from the left, and parts by their
-- numbers
abbrev pub is_before : GroupModel → GroupModel → Bool
is_before g h =
    is_lt (slice_cmp compare_parts g.key h.key)

-- the groups in the order of output: in the order of their first rows, or sorted
abbrev pub shown_groups : Bool → List GroupModel → List GroupModel
shown_groups sorted groups = if sorted then in_order is_before groups else groups

-- groups with the fields of their keys
pub record GroupsModel : Type 0 where
  pub fields : List KeyField
  pub groups : List GroupModel

-- the number of rows in all groups
abbrev pub record_count : List GroupModel → ℕ
record_count groups = sum_by (λ g. g.totals.records) groups

-- the groups of no rows, by these fields
pub record AreOfNoRows (asked : List KeyField) (g : GroupsModel) : Type 0 where
  pub fields : g.fields ≡ asked
  pub groups : g.groups ≡ groups_of_keyed []
