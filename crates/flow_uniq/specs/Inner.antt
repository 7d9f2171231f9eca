use Rattle.std.specs.Prelude.{◌≡◌, ℕ, ◌^◌, List, length, ◌+◌, ◌-◌, ◌*◌, ◌≤◌, map, unwrap_or}
use Rattle.std.specs.List.{IsDistinct}
use Rattle.std.specs.Map.{keys_of, lookup}
use Rattle.indexmap.specs.IndexMap.{insert_entry}
use Rattle.flow_rows.specs.Elements.{RowView}
use Rattle.flow_uniq.specs.Codes.{AreSmall, key_in, same_code}
use Rattle.flow_uniq.specs.Key.{Key}
pub use Rattle.flow_uniq.specs.declared.groups.Group.{Group}
use Rattle.flow_uniq.specs.Groups.{Totals, GroupModel}
use Rattle.flow_uniq.specs.declared.codec.Key as borrowed

-- How groups are stored.

-- the parts of a borrowed key, and a group
abbrev pub key_model : borrowed.Key → Key
key_model k = key_in k.code.now

abbrev pub group_model : Group → GroupModel
group_model g = record { key = key_model g.key; totals = g.totals }

-- the groups of keys that are paired with totals
abbrev pub kept_groups : List (Key × Totals) → List GroupModel
kept_groups entries = map (λ e. record { key = e.0; totals = e.1 }) entries

-- no row has more than 2 ^ 64 - 1 packets or octets
abbrev pub IsBounded : Totals → Type 0
IsBounded t = (t.packets ≤ (2 ^ 64 - 1) * t.records) × (t.octets ≤ (2 ^ 64 - 1) * t.records)

-- the totals of no rows, and totals with one more row
abbrev pub none : Totals
none = record { records = 0; packets = 0; octets = 0 }

abbrev pub with_row : Totals → RowView → Totals
with_row t row = record {
  records = t.records + 1;
  packets = t.packets + row.packets;
  octets = t.octets + row.octets;
}

-- the new entries have one more row in the group of the key, or a new group at the end if there was none
pub record HasRow (key : Key) (row : RowView) (old new : List (Key × Totals)) : Type 0 where
  pub is : new ≡ insert_entry same_code old key (with_row (unwrap_or (lookup (same_code key) old) none) row)
  pub once : IsDistinct same_code (keys_of old)
  pub packets : row.packets ≤ 2 ^ 64 - 1
  pub octets : row.octets ≤ 2 ^ 64 - 1

-- the key has `count` parts, which fit in their bytes, and is paired with bounded totals
pub record IsKept (count : ℕ) (entry : Key × Totals) : Type 0 where
  pub long : length entry.0 ≡ count
  pub small : AreSmall entry.0
  pub bounded : IsBounded entry.1
