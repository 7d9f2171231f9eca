use Rattle.std.specs.Prelude.{ℕ, List, Bool, false, Option, None, Result, Ok, map}
use Rattle.std.specs.List.{flat_map}
use Rattle.pmap_model.specs.Steps.{◌>>=◌}
use Rattle.pmap_text.specs.Reading.{list_reading}
use Rattle.pmap_text.specs.declared.fault.MapFault.{MapFault}
use Rattle.ipfix_read.specs.declared.set.Set.{Set}
use Rattle.flow_rows.specs.Counts.{counts_of}
use Rattle.flow_rows.specs.Elements.{RowView}
use Rattle.label_lookup.specs.Labelling.{Labelling, label_where}
use Rattle.flow_uniq.specs.Groups.{groups_of, shown_groups}
use Rattle.flow_uniq.specs.Grouped.{row_groups}
use Rattle.flow_uniq.specs.Laws.{merged}
use Rattle.flow_uniq.specs.Key.{keys_reading}
use Rattle.flow_uniq.specs.declared.fault.KeyFault.{KeyFault}
use Rattle.pmap_cert.specs.ListText.{list_text}
use Rattle.pmap_print.specs.Reports.{groups_text, info_text, rows_text}
use Rattle.flow_files.specs.Groups.{groups_table}

-- What commands print of groups, rows, counts and lists.

-- no address has a label
abbrev pub unlabelled : Option Labelling
unlabelled = None

-- what `uniq` prints of rows, by the text of `--fields`, sorted or not, and in columns or not
abbrev pub groups_in : Bool → List ℕ → Bool → Option Labelling → List RowView → Result (List ℕ) KeyFault
groups_in columns names sorted labels rows =
    keys_reading names >>= (λ fields.
    Ok (groups_table fields columns labels (row_groups (label_where labels) fields sorted rows)))

abbrev pub uniq : List ℕ → Bool → Option Labelling → List RowView → Result (List ℕ) KeyFault
uniq = groups_in false

-- what `uniq` prints of the groups of parts of the rows, merged
abbrev pub uniq_of_parts : List ℕ → Bool → Option Labelling → List (List RowView) → Result (List ℕ) KeyFault
uniq_of_parts names sorted labels parts =
    keys_reading names >>= (λ fields. Ok (groups_text fields
    (shown_groups sorted (merged (flat_map (λ rows.
    shown_groups sorted (groups_of fields (label_where labels) rows)) parts))) false))

-- what `rows` prints of rows without labels
abbrev pub rows : Bool → List RowView → List ℕ
rows columns all = rows_text all None columns

-- what `info` prints of messages with these sets
abbrev pub info : List (List Set) → List ℕ
info messages =
    info_text (counts_of (map (λ sets. record { export_time = 0; sequence = 0; domain = 1; sets = sets }) messages))

-- the list that a text represents, printed
abbrev pub printed_list : List ℕ → Result (List ℕ) MapFault
printed_list text = list_reading text >>= (λ l. Ok (list_text l))
