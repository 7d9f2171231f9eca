-- Laws about the definitions.
use Rattle.std.specs.Prelude.{◌≡◌, ℕ, ◌+◌, ◌-◌, ◌≤◌, Bool, false, not, nat_lt}
use Rattle.std.specs.Prelude.{List, [], ◌∷◌, ◌++◌, length, Option, Ok, Result}
use Rattle.std.specs.List.{All, flat_map, list_any}
use Rattle.std.specs.Result.{result_map_both}
use Rattle.flow_io.specs.Devices.{InputView, ReadsInput, has_ended}
use Rattle.ipfix_templates.specs.InForce.{InForce}
use Rattle.ipfix_templates.specs.Reading.{after_items}
use Rattle.ipfix_read.specs.Message.{ReadFault, MessageView, after_message, message_next}
use Rattle.ipfix_read.specs.Set.{Set, Skipped}
use Rattle.ipfix_read.specs.Messages.{IsAt, ProgressView, file_reading, messages_from}
use Rattle.ipfix_read.specs.Messages.{messages_in, placed_from, AnswersNext, IsReadTo, JoinsFile}

-- the first message, and the rest read after it, are the whole, whatever came before
abbrev pub FirstMessageAndRest : Type 0
FirstMessageAndRest = (templates : InForce) (count offset : ℕ) (bytes after : List ℕ) (m : MessageView)
    → message_next templates count offset bytes ≡ Ok (m, after)
    → messages_from templates count offset bytes
    ≡ after_items (m ∷ [])
    (messages_from (after_message templates m) (count + 1) (offset + (length bytes - length after)) after)

-- the messages with their offsets are these messages
abbrev pub PlacedAreMessages : Type 0
PlacedAreMessages = (templates : InForce) (count offset : ℕ) (bytes : List ℕ)
    → messages_from templates count offset bytes
    ≡ result_map_both messages_in (λ fault. fault) (placed_from templates count offset bytes)

-- before any call nothing is read of the bytes, wherever reading begins
abbrev pub CallsStart : Type 0
CallsStart = (templates : InForce) (count offset : ℕ) (input : InputView) (start : ProgressView)
    → IsAt templates count offset start → IsReadTo templates count offset input [] start input

-- if some messages are read so far, the result of the next call joins them to the whole
abbrev pub CallsJoinFile : Type 0
CallsJoinFile = (templates : InForce) (count offset : ℕ) (start now then : InputView)
    (placed : List (ℕ × MessageView)) (old new : ProgressView) (result : Result (Option MessageView) ReadFault)
    → IsReadTo templates count offset start placed old now
    → ReadsInput now then (AnswersNext old result new (has_ended then))
    → JoinsFile templates count offset start placed old.offset result new then

-- Files that are joined, one after the other.

-- whether the set has the ID of a data set, and was skipped because no template was in force
abbrev pub lacks_template : Set → Bool
lacks_template (Skipped id) = not (nat_lt id 256)
lacks_template set = false

-- a File: its bytes, and its messages
abbrev pub File : Type 0
File = List ℕ × List MessageView

-- the bytes of these Files, one after the other, and the messages of all
abbrev pub joined : List File → File
joined files = (flat_map (λ file. file.0) files, flat_map (λ file. file.1) files)

-- the File has no fault, and these are its messages
abbrev pub IsRead : File → Type 0
IsRead file = file_reading file.0 ≡ Ok file.1

-- the File needs no template of another File
abbrev pub IsSelfContained : File → Type 0
IsSelfContained file =
    IsRead file × (list_any (λ m. list_any lacks_template m.sets) file.1 ≡ false)

-- The Files may be joined: none has a fault, the later ones are self-contained, and together they
-- have at most as many messages as one File can have.
pub record CanFollow (first : File) (later : List File) : Type 0 where
  pub reads : IsRead first
  pub alone : All IsSelfContained later
  pub most : length (joined (first ∷ later)).1 ≤ 4294967295

-- the joined File has no fault, and the messages of all Files
abbrev pub JoinedFileIsRead : Type 0
JoinedFileIsRead =
    (first : File) (later : List File) → CanFollow first later → IsRead (joined (first ∷ later))

-- the same for two Files
abbrev pub FileAfterFile : Type 0
FileAfterFile = (first second : File) → IsRead first → IsSelfContained second
    → length first.1 + length second.1 ≤ 4294967295
    → IsRead (first.0 ++ second.0, first.1 ++ second.1)
