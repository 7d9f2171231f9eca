-- The lines of messages, one by one.
use Rattle.std.proofs.Common.{ℕ, ◌≡◌, ◌<◌, ◌+◌, ◌∙◌, List, [], ◌∷◌, ◌++◌, add-zero, ap, append_assoc, arith, get_or, length, map, sym, take}
use Rattle.std.proofs.lemmas.List.{append-nil, map_push, take_more}
use Rattle.ipfix_read.specs.Message.{MessageView}
use Rattle.pmap_print.specs.declared.messages.MessageLine.{MessageLine}
use Rattle.pmap_print.specs.Messages.{file_lines, fields_of, lines_from, message_line, message_titles}
use Rattle.pmap_print.specs.Table.{Line}

-- what the list of lines has past its end, in the facts of a loop
abbrev pub no_line : MessageLine
no_line = record {
  file = 0;
  offset = 0;
  number = 0;
  domain = 0;
  sequence = 0;
  time = 0;
  counts = record { definitions = 0; skipped_sets = 0; records = 0; options_records = 0; rows = 0; zero_bytes = 0 };
}

-- the header and the first lines
abbrev pub first_lines : List MessageLine → ℕ → List Line
first_lines lines count = message_titles ∷ map fields_of (take count lines)

-- one more line
pub line_added : (lines : List MessageLine) (i : ℕ) (d : MessageLine) → i < length lines
    → first_lines lines i ++ fields_of (get_or lines i d) ∷ [] ≡ first_lines lines (i + 1)
line_added lines i d inside =
    ap (λ (ls : List Line). message_titles ∷ ls)
    (sym (ap (map fields_of) (take_more lines i d inside) ∙ map_push fields_of (take i lines) (get_or lines i d)))

-- one more message of a File
pub file_lines-added : (file number : ℕ) (messages : List (ℕ × MessageView)) (message : ℕ × MessageView)
    → file_lines file number (messages ++ message ∷ []) ≡ file_lines file number messages ++ message_line file (number + length messages) message ∷ []
file_lines-added file number [] message = ap (λ n. message_line file n message ∷ []) (sym (add-zero number))
file_lines-added file number (m ∷ messages) message =
    ap (λ (lines : List Line). message_line file number m ∷ lines)
    (file_lines-added file (number + 1) messages message
    ∙ ap (λ n. file_lines file (number + 1) messages ++ message_line file n message ∷ []) (omega arith))

-- one more File
pub lines_from-added : (file : ℕ) (files : List (List (ℕ × MessageView))) (messages : List (ℕ × MessageView))
    → lines_from file (files ++ messages ∷ []) ≡ lines_from file files ++ file_lines (file + length files) 1 messages
lines_from-added file [] messages = append-nil (file_lines file 1 messages) ∙ ap (λ n. file_lines n 1 messages) (sym (add-zero file))
lines_from-added file (first ∷ files) messages =
    ap (λ (lines : List Line). file_lines file 1 first ++ lines)
    (lines_from-added (file + 1) files messages ∙ ap (λ n. lines_from (file + 1) files ++ file_lines n 1 messages) (omega arith))
    ∙ sym (append_assoc (file_lines file 1 first) (lines_from (file + 1) files) (file_lines (file + length (first ∷ files)) 1 messages))
