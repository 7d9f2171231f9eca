use Rattle.std.specs.Prelude.{◌≡◌, ◌<◌, ◌↔◌, ℕ, Bool, true, List, [], ◌∷◌, Option, Contains}
use Rattle.std.specs.Prelude.{filter, if◌then◌else◌, length, not, slice_index_or, sum_by}
use Rattle.std.specs.Cmp.Lexicographic.{slice_cmp}
use Rattle.std.specs.List.{flat_map}
use Rattle.std.specs.List.Sorted.{IsPermutation}
use Rattle.std.specs.Ordering.{is_eq, is_lt}
use Rattle.std.specs.declared.cmp.Ordering.{Ordering}
use Rattle.std.specs.declared.cmp.Ordering.TheVariants.{Less}
use Rattle.prefix_keys.specs.Text.{AddressOf}
use Rattle.pmap_model.specs.MapModel.{Label}
use Rattle.pmap_model.specs.Sorting.{in_order}
use Rattle.flow_rows.specs.Elements.{RowView}
use Rattle.flow_uniq.specs.declared.field.KeyField.{KeyField}
use Rattle.flow_uniq.specs.Key.{compare_parts, key_of}
use Rattle.flow_uniq.specs.Groups.{GroupModel}

-- Rows in groups by fields.

-- the items in groups, each as its first item and the others that are the same, in the order of the first items
abbrev pub grouped : {A : Type 0} → (A → A → Bool) → List A → List (A × List A)
grouped same [] = []
grouped same (x ∷ xs) =
    (x, filter (same x) xs) ∷ filter (λ g. not (same x g.0)) (grouped same xs)

-- The function gives the label of each address, if it has one.
module _ (label : AddressOf → Option Label) where
  -- how two rows compare: by what they have in the first field that differs
  abbrev pub compare_by : List KeyField → RowView → RowView → Ordering
  compare_by fields r s =
      slice_cmp compare_parts (key_of label fields r) (key_of label fields s)

  -- The groups of rows in the order of output, each as its first row and the others. The rows of a group have the same
  -- in each field. The groups are in the order of their first rows, or sorted by what these have.
  abbrev pub row_groups : List KeyField → Bool → List RowView → List (RowView × List RowView)
  row_groups fields sorted rows =
      let groups = grouped (λ r s. is_eq (compare_by fields r s)) rows in
      if sorted then in_order (λ g h. is_lt (compare_by fields g.0 h.0)) groups else groups

  -- Each row is in one group. Two rows are in the same group if and only if they have the same in each field. If the
  -- groups are sorted, a row of an earlier group is before a row of a later one: in the first field that differs, it
  -- has less.
  pub record AreGrouped (fields : List KeyField) (sorted : Bool)
      (rows : List RowView) (groups : List (List RowView)) : Type 0 where
    pub once : IsPermutation rows (flat_map (λ g. g) groups)
    pub together : (i j : ℕ) (r s : RowView)
        → Contains (slice_index_or groups i []) r → Contains (slice_index_or groups j []) s
        → (i ≡ j ↔ key_of label fields r ≡ key_of label fields s)
        × (sorted ≡ true → i < j → compare_by fields r s ≡ Less)

-- Below: only contracts of parts and proofs use these; no promise of the program rests on them.

module _ (label : AddressOf → Option Label) where
  -- a group by its first row and the others, as `groups_of` has it
  abbrev pub group_with : List KeyField → RowView × List RowView → GroupModel
  group_with fields rows = record {
    key = key_of label fields rows.0;
    totals = record {
      records = length (rows.0 ∷ rows.1);
      packets = sum_by (λ r. r.packets) (rows.0 ∷ rows.1);
      octets = sum_by (λ r. r.octets) (rows.0 ∷ rows.1);
    };
  }
