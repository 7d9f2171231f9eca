-- The messages of Files that can be joined.
use Rattle.std.proofs.Common.{◌≡◌, ◌∙◌, List, [], ◌∷◌, ◌++◌, Result, Ok, map, refl}
use Rattle.std.specs.Prelude.{All}
use Rattle.std.specs.List.{flat_map}
use Rattle.std.proofs.lemmas.List.Elements.{All-cons, All-head, All-tail, All-weaker}
use Rattle.ipfix_read.specs.Laws.{CanFollow, File, IsRead, IsSelfContained, PlacedAreMessages, joined}
use Rattle.ipfix_read.specs.Messages.{file_reading, messages_in, placed_messages}
use Rattle.flow_many.specs.Files.{Placed, Refusal, files_reading}
use Rattle.flow_many.specs.Output.{all_messages}
use Rattle.flow_many.proofs.HeadlineLemmas.{are_read, file_is, messages_are}

-- a result without a fault has one value
one_value : {A F : Type 0} (r : Result A F) (x y : A) → r ≡ Ok x → r ≡ Ok y → x ≡ y
one_value r x y is also = cc

-- the messages that are read of Files are those that the Files have
messages_same : PlacedAreMessages → (files : List File) (read : List (List Placed)) → All IsRead files
    → map placed_messages (map (λ (file : File). file.0) files) ≡ map (λ file. Ok file) read
    → flat_map messages_in read ≡ flat_map (λ (file : File). file.1) files
messages_same law [] [] all is = refl
messages_same law (file ∷ files) (messages ∷ read) all is =
    let here : placed_messages file.0 ≡ Ok messages = cc in
    let rest : map placed_messages (map (λ (file : File). file.0) files) ≡ map (λ file. Ok file) read = cc in
    let same = one_value (file_reading file.0) (messages_in messages) file.1 (file_is law file.0 messages here)
    (All-head IsRead file files all) in
    λ i. same i ++ messages_same law files read (All-tail IsRead file files all) rest i
messages_same law [] (messages ∷ read) all is = cc
messages_same law (file ∷ files) [] all is = cc

-- each of the Files that can be joined is read
all_read : (first : File) (later : List File) → CanFollow first later → All IsRead (first ∷ later)
all_read first later follow =
    All-cons IsRead first later follow.reads
    (All-weaker IsSelfContained IsRead (λ file alone. alone.0) later follow.alone)

-- the messages that are read of Files that can be joined are those of the joined File
pub joined_messages : PlacedAreMessages → (first : File) (later : List File) → CanFollow first later
    → (refusal : Refusal) (read : List (List Placed))
    → files_reading refusal (map (λ (file : File). file.0) (first ∷ later)) ≡ Ok read
    → all_messages read ≡ (joined (first ∷ later)).1
joined_messages law first later follow refusal read is =
    let are = are_read refusal 1 0 (map (λ (file : File). file.0) (first ∷ later)) read is in
    messages_are read ∙ messages_same law (first ∷ later) read (all_read first later follow) are.placed
