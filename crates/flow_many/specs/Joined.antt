-- What a sum prints for Files that can be joined.
use Rattle.std.specs.Prelude.{◌≡◌, Bool, List, ◌∷◌, Ok, Option, map, true}
use Rattle.ipfix_read.specs.Laws.{CanFollow, File, joined}
use Rattle.ipfix_read.specs.Messages.{file_reading}
use Rattle.flow_rows.specs.Counts.{rows_of_messages}
use Rattle.flow_filter.specs.Condition.{Condition, passing}
use Rattle.flow_uniq.specs.declared.field.KeyField.{KeyField}
use Rattle.label_lookup.specs.Labelling.{Labelling}
use Rattle.flow_files.specs.Groups.{uniq_text}
use Rattle.flow_many.specs.Files.{Placed, Refusal, files_reading}
use Rattle.flow_many.specs.Output.{all_messages}

-- If Files can be joined, and none of their messages is refused, then the sum over them is what `uniq` prints, sorted,
-- for the joined File.
abbrev pub SumOfJoinedFile : Type 0
SumOfJoinedFile = (first : File) (later : List File) → CanFollow first later
    → (refusal : Refusal) (read : List (List Placed))
    → files_reading refusal (map (λ file. file.0) (first ∷ later)) ≡ Ok read
    → let whole = joined (first ∷ later) in
    (file_reading whole.0 ≡ Ok whole.1)
    × ((fields : List KeyField) (condition : Condition) (columns : Bool) (labels : Option Labelling)
    → uniq_text fields true columns labels
    (passing condition labels (rows_of_messages (all_messages read)))
    ≡ uniq_text fields true columns labels (passing condition labels (rows_of_messages whole.1)))
