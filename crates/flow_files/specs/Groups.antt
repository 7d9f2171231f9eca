use Rattle.std.specs.Prelude.{◌∷◌, ◌++◌, [], Bool, List, Option, codes, decimal}
use Rattle.std.specs.Prelude.{if◌then◌else◌, is_some, length, map, sum_by}
use Rattle.label_lookup.specs.Labelling.{Labelling, label_where}
use Rattle.flow_rows.specs.Elements.{RowView}
use Rattle.flow_rows.specs.declared.number.TheConstants.{NUMBERS}
use Rattle.flow_uniq.specs.Grouped.{AreGrouped, row_groups}
use Rattle.flow_uniq.specs.Key.{field_name, key_part}
use Rattle.flow_uniq.specs.declared.field.KeyField.{KeyField}
use Rattle.flow_uniq.specs.declared.field.KeyField.TheVariants.{DestinationAddress, DestinationLabel}
use Rattle.flow_uniq.specs.declared.field.KeyField.TheVariants.{Number, SourceAddress, SourceLabel}
use Rattle.pmap_print.specs.Reports.{group_titles, part_text}
use Rattle.pmap_print.specs.Table.{table_text}
use Rattle.flow_files.specs.Outcomes.{Outcome, Prints}
use Rattle.flow_files.specs.Sources.{Text}

-- Tables of groups of rows, in a row's own terms.

-- the text of what a row has in a field; that of a missing label is empty
abbrev pub field_text : Option Labelling → RowView → KeyField → Text
field_text labels row field = part_text (key_part (label_where labels) row field)

-- the columns of a row, each with its title and its text; the last two are the labels of its addresses, if there is a
-- labelling
abbrev pub row_columns : Option Labelling → RowView → List (Text × Text)
row_columns labels row =
    let column : KeyField → Text × Text = λ field.
    (field_name field, field_text labels row field) in
    column SourceAddress ∷ column DestinationAddress
    ∷ map (λ number. column (Number number)) NUMBERS
    ++ (codes "packets", decimal row.packets) ∷ (codes "bytes", decimal row.octets)
    ∷ (codes "stime", decimal row.start_ms) ∷ (codes "etime", decimal row.end_ms)
    ∷ (if is_some labels then column SourceLabel ∷ column DestinationLabel ∷ [] else [])

-- The table of groups, each given as its first row and the others. The line of a group has the texts of the fields of
-- the first row, the number of its rows, and the sums of their packets and bytes.
abbrev pub groups_table : List KeyField → Bool → Option Labelling → List (RowView × List RowView)
    → Text
groups_table fields columns labels groups =
    table_text columns (group_titles fields ∷ map (λ g. let rows = g.0 ∷ g.1 in
    map (field_text labels g.0) fields
    ++ decimal (length rows) ∷ decimal (sum_by (λ r. r.packets) rows)
    ∷ decimal (sum_by (λ r. r.octets) rows) ∷ []) groups)

-- what `uniq` prints: the groups of rows by fields
abbrev pub uniq_text : List KeyField → (sorted columns : Bool) → Option Labelling → List RowView
    → Text
uniq_text fields sorted columns labels rows =
    groups_table fields columns labels (row_groups (label_where labels) fields sorted rows)

-- the outcome is a table of groups of the rows
abbrev pub PrintsGroups : List KeyField → Bool → Bool → Option Labelling → List RowView → Outcome
    → Type 0
PrintsGroups fields sorted columns labels rows outcome = (groups : List (RowView × List RowView))
    × AreGrouped (label_where labels) fields sorted rows (map (λ g. g.0 ∷ g.1) groups)
    × Prints (groups_table fields columns labels groups) outcome
