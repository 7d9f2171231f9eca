-- The table of groups by keys is that of the groups by fields.
use Rattle.std.proofs.Common.{◌≡◌, ◌∙◌, Bool, List, [], ◌∷◌, ◌++◌, Option, ap, map, refl}
use Rattle.std.specs.Prelude.{decimal, length, sum_by}
use Rattle.std.proofs.lemmas.Simd.{map-map}
use Rattle.label_lookup.specs.Labelling.{Labelling, label_where}
use Rattle.flow_rows.specs.Elements.{RowView}
use Rattle.flow_uniq.specs.declared.field.KeyField.{KeyField}
use Rattle.flow_uniq.specs.Groups.{groups_of, shown_groups}
use Rattle.flow_uniq.specs.Grouped.{group_with, row_groups}
use Rattle.flow_uniq.specs.Key.{key_part}
use Rattle.flow_uniq.proofs.RowGroups.{groups-rows}
use Rattle.pmap_print.specs.Reports.{group_fields, group_titles, groups_text, part_text}
use Rattle.pmap_print.specs.Table.{Line, table_text}
use Rattle.flow_files.specs.Groups.{field_text, groups_table}

abbrev group_line : List KeyField → Option Labelling → RowView × List RowView → Line
group_line fields labels g =
    let rows : List RowView = g.0 ∷ g.1 in
    map (field_text labels g.0) fields ++ decimal (length rows) ∷ decimal (sum_by (λ r. r.packets) rows) ∷ decimal (sum_by (λ r. r.octets) rows) ∷ []

lines_of_groups : (fields : List KeyField) (labels : Option Labelling) (groups : List (RowView × List RowView))
    → map group_fields (map (group_with (label_where labels) fields) groups) ≡ map (group_line fields labels) groups
lines_of_groups fields labels [] = refl
lines_of_groups fields labels (group ∷ groups) =
    let g = group_with (label_where labels) fields group in
    λ i. (map-map part_text (key_part (label_where labels) group.0) fields i ++ decimal g.totals.records ∷ decimal g.totals.packets ∷ decimal g.totals.octets ∷ [])
    ∷ lines_of_groups fields labels groups i

-- the text of groups by keys is the table of groups by fields
pub groups-table : (fields : List KeyField) (sorted columns : Bool) (labels : Option Labelling) (rows : List RowView)
    → groups_text fields (shown_groups sorted (groups_of fields (label_where labels) rows)) columns
    ≡ groups_table fields columns labels (row_groups (label_where labels) fields sorted rows)
groups-table fields sorted columns labels rows =
    ap (λ shown. groups_text fields shown columns) (groups-rows (label_where labels) fields rows sorted)
    ∙ ap (λ (lines : List Line). table_text columns (group_titles fields ∷ lines)) (lines_of_groups fields labels (row_groups (label_where labels) fields sorted rows))
