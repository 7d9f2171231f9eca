use Rattle.std.specs.Prelude.{List, [], ◌∷◌, ◌++◌, map, Option, Some, None, Bool, false, true, codes, decimal}
use Rattle.std.specs.Prelude.{unwrap_or, option_map, option_copied, fold, ℕ, slice_index_or, if◌then◌else◌}
use Rattle.std.specs.Borrow.{Bor}
use Rattle.std.specs.Global.{Vec}
use Rattle.std.specs.List.{zip}
use Rattle.std.specs.Option.{option_map_or}
use Rattle.prefix_keys.specs.Print.{address_text}
use Rattle.flow_rows.specs.Elements.{RowView}
use Rattle.flow_uniq.specs.declared.field.KeyField.{KeyField}
use Rattle.flow_uniq.specs.Key.{field_name, KeyPartModel, AddressPart, NumberPart, LabelPart, TimePart}
use Rattle.flow_uniq.specs.declared.groups.Group.{Group}
use Rattle.flow_uniq.specs.Groups.{GroupModel, GroupsModel}
use Rattle.flow_uniq.specs.Inner.{group_model}
pub use Rattle.pmap_print.specs.declared.row_labels.RowLabels.{RowLabels}
use Rattle.pmap_print.specs.Table.{Text, Line, table_text}
use Rattle.pmap_print.specs.Times.{time_text}

-- The printed text of flow rows.

-- the names of a row's columns, and of the label columns that follow them
abbrev pub row_titles : Line
row_titles =
    codes "sip" ∷ codes "dip" ∷ codes "sport" ∷ codes "dport" ∷ codes "proto" ∷ codes "flags"
    ∷ codes "packets"
    ∷ codes "bytes" ∷ codes "stime" ∷ codes "etime" ∷ []

abbrev pub label_titles : Line
label_titles = codes "src-label" ∷ codes "dst-label" ∷ []

-- the header of rows, without labels or with them
abbrev pub title_line : Bool → Line
title_line false = row_titles
title_line true = row_titles ++ label_titles

-- the text of a part of a key, which is empty for a missing label
abbrev pub part_text : KeyPartModel → Text
part_text (AddressPart address) = address_text address.0 address.1
part_text (NumberPart number) = decimal number
part_text (LabelPart label) = unwrap_or label []
part_text (TimePart precision number) = time_text precision number

-- The header of groups.

-- the column names of groups by these fields, and of their totals
abbrev pub group_titles : List KeyField → Line
group_titles fields =
    map field_name fields ++ codes "records" ∷ codes "packets" ∷ codes "bytes" ∷ []

-- The printed text of counts.

-- the names of counts, in the order in which they are printed
abbrev pub count_names : Line
count_names =
    codes "messages" ∷ codes "templates" ∷ codes "options-templates" ∷ codes "withdrawals"
    ∷ codes "data-sets"
    ∷ codes "skipped-sets" ∷ codes "records" ∷ codes "options-records" ∷ codes "rows" ∷ []

-- the lines of all counts, each with its name and its number
abbrev pub info_text : List ℕ → Text
info_text counts =
    fold (λ text count. text ++ (count.0 ++ 32 ∷ decimal count.1 ++ 10 ∷ [])) []
    (zip count_names counts)

-- Below: only contracts of parts and proofs use these; no promise of the program rests on them.

-- the fields of a row
abbrev pub row_fields : RowView → Line
row_fields r =
    address_text r.version r.src ∷ address_text r.version r.dst ∷ decimal r.sport ∷ decimal r.dport
    ∷ decimal r.protocol
    ∷ decimal r.flags ∷ decimal r.packets ∷ decimal r.octets ∷ decimal r.start_ms
    ∷ decimal r.end_ms ∷ []

-- the labels of a row's two addresses, if they have one
abbrev pub LabelTexts : Type 0
LabelTexts = Option Text × Option Text

-- the fields of a row's labels; that of a missing label is empty
abbrev pub label_fields : LabelTexts → Line
label_fields labels = unwrap_or labels.0 [] ∷ unwrap_or labels.1 [] ∷ []

-- the labels that a row has been given
abbrev pub label_texts : RowLabels → LabelTexts
label_texts labels = (option_copied labels.src, option_copied labels.dst)

-- the line of a row, with its labels if it has them
abbrev pub row_line : RowView → Option LabelTexts → Line
row_line row None = row_fields row
row_line row (Some labels) = row_fields row ++ label_fields labels

-- the header and the lines of rows, with labels if they are given
abbrev pub row_lines : List RowView → Option (List LabelTexts) → List Line
row_lines rows None = title_line false ∷ map (λ row. row_line row None) rows
row_lines rows (Some labels) =
    title_line true ∷ map (λ p. row_line p.0 (Some p.1)) (zip rows labels)

-- the labels of rows, if labels are given
abbrev pub given_labels : Option (Bor (List RowLabels)) → Option (List LabelTexts)
given_labels labels = option_map (λ given. map label_texts given.now) labels

-- the text of rows, with the labels of each row's addresses if labels are given
abbrev pub rows_text : List RowView → Option (List LabelTexts) → Bool → Text
rows_text rows labels columns = table_text columns (row_lines rows labels)

-- How the lines of rows are printed, one by one.

-- the number of columns, with labels or without
abbrev pub column_count : Bool → ℕ
column_count labelled = if labelled then 12 else 10

-- the labels of the row at an index, if labels are given
abbrev pub labels_of_row : Option (List LabelTexts) → ℕ → Option LabelTexts
labels_of_row labels index = option_map (λ texts. slice_index_or texts index (None, None)) labels

-- How groups are printed.

-- the fields of a group's line
abbrev pub group_fields : GroupModel → Line
group_fields g =
    map part_text g.key ++ decimal g.totals.records ∷ decimal g.totals.packets
    ∷ decimal g.totals.octets ∷ []

-- the text of groups by these fields, in the order given: the header and the line of each group
abbrev pub groups_text : List KeyField → List GroupModel → Bool → Text
groups_text fields groups columns =
    table_text columns (group_titles fields ∷ map group_fields groups)

-- the sorted groups, if they are given, otherwise the groups in the order of their first rows
abbrev pub ordered : Option (Vec Group) → GroupsModel → List GroupModel
ordered sorted groups = option_map_or (λ s. map group_model s.items) sorted groups.groups

-- the header and the lines of groups by these fields
abbrev pub group_lines : List KeyField → List GroupModel → List Line
group_lines fields groups = group_titles fields ∷ map group_fields groups
