use Rattle.std.specs.Prelude.{◌≡◌, ℕ, ◌+◌, List, [], ◌∷◌, count_by, fold, map}
use Rattle.std.specs.List.{flat_map, zip}
use Rattle.ipfix_read.specs.Message.{MessageView}
use Rattle.ipfix_read.specs.Laws.{CanFollow, File, IsRead, IsSelfContained, joined}
use Rattle.flow_rows.specs.Counts.{counts_of, is_skipped, message_counts, rows_of_messages, sets_of}

-- two lists of counts, each count added to the one of its kind
abbrev pub sums : List ℕ → List ℕ → List ℕ
sums these those = map (λ pair. pair.0 + pair.1) (zip these those)

-- several lists of counts, added up
abbrev pub all_sums : List (List ℕ) → List ℕ
all_sums counts = fold sums (counts_of []) counts

-- the counts of each message, added up
abbrev pub summed_counts : List MessageView → List ℕ
summed_counts messages = all_sums (map (λ message. counts_of (message ∷ [])) messages)

-- the counts that lines of messages show, added up over messages
abbrev pub summed_message_counts : List MessageView → List ℕ
summed_message_counts messages =
    fold sums (message_counts []) (map (λ message. message_counts message.sets) messages)

-- what these sums are, from the counts of a File and the number of its rows without bytes
abbrev pub sums_of_lines : List ℕ → ℕ → List ℕ
sums_of_lines (_ ∷ templates ∷ options_templates ∷ _ ∷ _ ∷ skipped ∷ records ∷ options ∷ rows ∷ [])
    zero_bytes =
    (templates + options_templates) ∷ skipped ∷ records ∷ options ∷ rows ∷ zero_bytes ∷ []
sums_of_lines _ zero_bytes = []

-- Below: only contracts of parts and proofs use these; no promise of the program rests on them.

-- the rows of the joined File are those of each File, in order, and its counts are the sums of
-- those of each File
abbrev pub JoinedFileAddsUp : Type 0
JoinedFileAddsUp = (first : File) (later : List File) → CanFollow first later
    → let files = first ∷ later in
    IsRead (joined files)
    × (rows_of_messages (joined files).1 ≡ flat_map (λ file. rows_of_messages file.1) files)
    × (counts_of (joined files).1 ≡ all_sums (map (λ file. counts_of file.1) files))

-- a File without skipped sets is self-contained
abbrev pub NoneSkipped : Type 0
NoneSkipped =
    (file : File) → IsRead file → count_by is_skipped (sets_of file.1) ≡ 0 → IsSelfContained file
