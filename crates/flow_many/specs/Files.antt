use Rattle.std.specs.Prelude.{ℕ, ◌+◌, List, [], ◌∷◌, Option, None, Result, Ok, Err, length}
use Rattle.std.specs.Option.{option_map_or, option_or}
use Rattle.std.specs.Result.{result_map_both}
use Rattle.pmap_model.specs.Steps.{◌>>=◌}
use Rattle.ipfix_templates.specs.Reading.{after_items}
use Rattle.ipfix_read.specs.Message.{MessageView}
use Rattle.ipfix_read.specs.Messages.{placed_messages}
use Rattle.flow_files.specs.declared.bytes_fault.BytesFault.{BytesFault}
use Rattle.flow_files.specs.declared.bytes_fault.BytesFault.TheVariants.{Flows as InFlows}
use Rattle.flow_files.specs.Outcomes.{with_bytes_fault}
use Rattle.flow_files.specs.Sources.{Text}

-- What several Files are read as. Each is a File of its own: no template of one is in force in another.

-- a message, and its offset in its File
abbrev pub Placed : Type 0
Placed = ℕ × MessageView

-- a fault of the bytes of a File, and the number of the File, from 1; 0 is the map or the list
pub record FileFault : Type 0 where
  pub file : ℕ
  pub fault : BytesFault

-- the fault of a message, by the number of messages of all Files before it
abbrev pub Refusal : Type 0
Refusal = ℕ → Placed → Option BytesFault

-- a reading, with its faults as those of the File with this number
abbrev pub of_file : {A : Type 0} → ℕ → Result A BytesFault → Result A FileFault
of_file number = result_map_both (λ value. value) (λ fault. record { file = number; fault = fault })

module _ (refusal : Refusal) where
  -- the first fault of a File's messages, which `before` messages of other Files precede
  abbrev pub first_refusal : ℕ → List Placed → Option BytesFault
  first_refusal before [] = None
  first_refusal before (message ∷ messages) =
      option_or (refusal before message) (first_refusal (before + 1) messages)

  -- the messages of a File with their offsets, or its fault: the first of its bytes, otherwise that of its messages
  abbrev pub one_reading : ℕ → Text → Result (List Placed) BytesFault
  one_reading before text = with_bytes_fault InFlows (placed_messages text) >>= (λ messages.
      option_map_or (λ fault. Err fault) (first_refusal before messages) (Ok messages))

  -- the messages of each File, or the fault of the first faulty one; the number of the first File and the number of
  -- messages before it are given
  abbrev pub files_from : ℕ → ℕ → List Text → Result (List (List Placed)) FileFault
  files_from number before [] = Ok []
  files_from number before (text ∷ texts) =
      of_file number (one_reading before text) >>= (λ messages.
      after_items (messages ∷ []) (files_from (number + 1) (before + length messages) texts))

  abbrev pub files_reading : List Text → Result (List (List Placed)) FileFault
  files_reading texts = files_from 1 0 texts
