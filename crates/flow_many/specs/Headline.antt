use Rattle.std.specs.Prelude.{◌≡◌, All, List, Ok, Option, count_by, false, map, true}
use Rattle.std.specs.List.{flat_map, list_any}
use Rattle.ipfix_read.specs.Message.{MessageView}
use Rattle.ipfix_read.specs.Messages.{file_reading, messages_in, placed_messages}
use Rattle.flow_rows.specs.Counts.{counts_of, has_no_bytes, is_skipped, rows_of_messages, sets_of}
use Rattle.flow_rows.specs.Laws.{summed_message_counts, sums_of_lines}
use Rattle.flow_filter.specs.Condition.{passing}
use Rattle.label_lookup.specs.Labelling.{Labelling}
use Rattle.pmap_print.specs.Messages.{messages_text}
use Rattle.flow_files.specs.declared.by_file.ByFile.{ByFile}
use Rattle.flow_files.specs.Groups.{PrintsGroups}
use Rattle.flow_files.specs.Outcomes.{source_reading}
use Rattle.flow_files.specs.Sources.{Text}
use Rattle.flow_many.specs.Files.{Placed}
use Rattle.flow_many.specs.Request.{Command, Messages, Sum}

-- the counts of the lines of messages add up to the counts of all of them
abbrev pub AddsUp : List MessageView → Type 0
AddsUp messages = summed_message_counts messages
    ≡ sums_of_lines (counts_of messages) (count_by has_no_bytes (rows_of_messages messages))

-- The headline: what a command that ends without a fault has written.

-- `sum`: each File is read by itself, and has no skipped sets, unless such are allowed. The text is a table of groups
-- of those rows of all Files that meet each option, by the labels of the map or the list. Each of these rows is in
-- exactly one group, once, and no other row is. `messages`: each File is read by itself, and the text has a line for
-- each message. The counts of a File's lines add up to those that `info` prints for it.
abbrev pub IsHeadline : Command → ByFile Text → List Text → Text → Type 0
IsHeadline (Sum fields source condition allowed columns names) labels_text texts out =
    (labels : Option Labelling) × (source_reading source labels_text ≡ Ok labels)
    × (files : List (List MessageView)) × (map file_reading texts ≡ map (λ file. Ok file) files)
    × (allowed ≡ false → All (λ file. list_any is_skipped (sets_of file) ≡ false) files)
    × PrintsGroups fields true columns labels
    (passing condition labels (flat_map rows_of_messages files)) (Ok out)
IsHeadline (Messages names) labels_text texts out = (files : List (List Placed))
    × (map placed_messages texts ≡ map (λ file. Ok file) files) × (out ≡ messages_text files)
    × All (λ file. AddsUp (messages_in file)) files
