use Rattle.std.specs.Prelude.{ℕ, ◌+◌, List, [], ◌∷◌, ◌++◌, map, codes, decimal, false}
use Rattle.ipfix_read.specs.Message.{MessageView}
use Rattle.flow_rows.specs.Counts.{message_counts, message_count_list}
use Rattle.pmap_print.specs.declared.messages.MessageLine.{MessageLine}
use Rattle.pmap_print.specs.Table.{Line, Text, table_text}

-- The printed text of messages, each with its offset in its File.

-- the names of a message's columns
abbrev pub message_titles : Line
message_titles =
    codes "file" ∷ codes "message" ∷ codes "offset" ∷ codes "domain" ∷ codes "sequence"
    ∷ codes "time"
    ∷ codes "definitions" ∷ codes "skipped-sets" ∷ codes "records" ∷ codes "options-records"
    ∷ codes "rows" ∷ codes "zero-bytes" ∷ []

-- the numbers of a message, given the number of its File, its number there, and its offset there:
-- these, its header and its counts
abbrev pub message_numbers : ℕ → ℕ → ℕ × MessageView → List ℕ
message_numbers file number (offset, message) =
    file ∷ number ∷ offset ∷ message.domain ∷ message.sequence ∷ message.export_time
    ∷ message_counts message.sets

-- the fields of its line
abbrev pub message_line : ℕ → ℕ → ℕ × MessageView → Line
message_line file number message = map decimal (message_numbers file number message)

-- the lines of messages of a File, of which the first has this number
abbrev pub file_lines : ℕ → ℕ → List (ℕ × MessageView) → List Line
file_lines file number [] = []
file_lines file number (message ∷ messages) =
    message_line file number message ∷ file_lines file (number + 1) messages

-- the lines of Files, of which the first has this number
abbrev pub lines_from : ℕ → List (List (ℕ × MessageView)) → List Line
lines_from file [] = []
lines_from file (messages ∷ files) = file_lines file 1 messages ++ lines_from (file + 1) files

-- the text of the messages of Files
abbrev pub messages_text : List (List (ℕ × MessageView)) → Text
messages_text files = table_text false (message_titles ∷ lines_from 1 files)

-- Below: only contracts of parts and proofs use these; no promise of the program rests on them.

-- the twelve numbers of a line
abbrev pub numbers_of : MessageLine → List ℕ
numbers_of line =
    line.file ∷ line.number ∷ line.offset ∷ line.domain ∷ line.sequence ∷ line.time
    ∷ message_count_list line.counts

-- the fields of a line
abbrev pub fields_of : MessageLine → Line
fields_of line = map decimal (numbers_of line)

-- the text of lines
abbrev pub lines_text : List MessageLine → Text
lines_text lines = table_text false (message_titles ∷ map fields_of lines)
