use Rattle.std.specs.Prelude.{ℕ, ◌&&◌, Bool, true, false, not, List, ◌∷◌, Option, Some, None}
use Rattle.std.specs.Prelude.{Result, Ok, if◌then◌else◌, map, nat_le, nat_lt, option_map}
use Rattle.std.specs.List.{flat_map, list_any}
use Rattle.pmap_model.specs.Steps.{◌>>=◌}
use Rattle.ipfix_read.specs.Message.{MessageView}
use Rattle.flow_rows.specs.Counts.{is_skipped, rows_of_messages, rows_of_sets}
use Rattle.flow_rows.specs.Elements.{RowView}
use Rattle.flow_filter.specs.Condition.{Condition, passing}
use Rattle.flow_uniq.specs.declared.field.KeyField.{KeyField}
use Rattle.flow_uniq.specs.declared.field.KeyField.TheVariants.{Start}
use Rattle.label_lookup.specs.Labelling.{Labelling}
use Rattle.pmap_print.specs.Messages.{messages_text}
use Rattle.flow_files.specs.declared.by_file.ByFile.{ByFile}
use Rattle.flow_files.specs.declared.bytes_fault.BytesFault.TheVariants.{Sum as InSum}
use Rattle.flow_files.specs.declared.bytes_fault.SumFaultKind.{SumFaultKind}
use Rattle.flow_files.specs.declared.bytes_fault.SumFaultKind.TheVariants.{SkippedSet, StartTooLate, TooManyRows}
use Rattle.flow_files.specs.declared.label_file.LabelFile.{LabelFile}
use Rattle.flow_files.specs.Groups.{uniq_text}
use Rattle.flow_files.specs.Outcomes.{source_reading}
use Rattle.flow_files.specs.Sources.{Text}
use Rattle.flow_many.specs.Files.{FileFault, Placed, Refusal, files_reading, of_file}
use Rattle.flow_many.specs.Request.{Command, Messages, Sum}

-- The output of a command for the texts of its files: the text that it prints, or the first fault.

-- What a sum refuses.

-- whether a set of the message was skipped, so that its records are in no sum
abbrev pub has_skipped : MessageView → Bool
has_skipped message = list_any is_skipped message.sets

-- The most messages of all Files together. A message has at most 131,070 rows, so the number of rows fits 64 bits.
abbrev pub message_limit : ℕ
message_limit = 140_737_488_355_328

-- the last millisecond of the year 9999
abbrev pub last_start : ℕ
last_start = 253_402_300_799_999

-- whether a row starts after the year 9999
abbrev pub is_late : RowView → Bool
is_late row = nat_lt last_start row.start_ms

-- whether a key begins with the start of a unit of time
abbrev pub has_time : List KeyField → Bool
has_time (Start unit ∷ fields) = true
has_time fields = false

-- Why a message is refused: it has a skipped set, unless such are allowed; there are too many messages before it; or a
-- row of it starts too late.
abbrev pub refused : (allowed : Bool) → ℕ → MessageView → (late : Bool) → Option SumFaultKind
refused allowed before message late =
    if not allowed && has_skipped message then Some SkippedSet
    else if nat_le message_limit before then Some TooManyRows
    else if late then Some StartTooLate else None

-- the fault of a message in a sum by time or in another one, at the offset of the message; only rows that meet the
-- condition can start too late
abbrev pub refusal_by : (timed : Bool) → Condition → (allowed : Bool) → Option Labelling → Refusal
refusal_by timed condition allowed labels before message =
    let shown = passing condition labels (rows_of_sets message.1.sets) in
    option_map (λ kind. InSum (record { kind = kind; offset = message.0 }))
    (refused allowed before message.1 (timed && list_any is_late shown))

-- The output.

-- the messages of Files, one File after the other
abbrev pub all_messages : List (List Placed) → List MessageView
all_messages files = map (λ m. m.1) (flat_map (λ file. file) files)

-- the map or the list that a command takes labels from, if it has one
abbrev pub labels_from : Command → Option LabelFile
labels_from (Sum fields source condition allowed columns names) = source
labels_from (Messages names) = None

-- what a command refuses, and the text that it prints for the messages of each File, under the labelling or without
-- one: the groups of the rows of all Files, sorted, or a line for each message
abbrev pub refusal_of : Command → Option Labelling → Refusal
refusal_of (Sum fields source condition allowed columns names) labels =
    refusal_by (has_time fields) condition allowed labels
refusal_of (Messages names) labels = λ before message. None

abbrev pub text_for : Command → Option Labelling → List (List Placed) → Text
text_for (Sum fields source condition allowed columns names) labels files =
    uniq_text fields true columns labels
    (passing condition labels (rows_of_messages (all_messages files)))
text_for (Messages names) labels files = messages_text files

-- The outcome of a command for the text of its map or list, if it has one, and those of its Files: the first fault, of
-- the map or the list and then of the Files in order, or the text.
abbrev pub outcome_of : Command → ByFile Text → List Text → Result Text FileFault
outcome_of command labels_text texts =
    of_file 0 (source_reading (labels_from command) labels_text) >>= (λ labels.
    files_reading (refusal_of command labels) texts >>= (λ files.
    Ok (text_for command labels files)))
