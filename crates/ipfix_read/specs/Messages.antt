use Rattle.std.specs.Prelude.{◌≡◌, ℕ, ◌+◌, ◌<◌, List, [], ◌++◌, length, None, ◌⊎◌, Bool, true}
use Rattle.std.specs.Prelude.{false, ◌∷◌, Option, Some, Result, Ok, Err, IfErr, ◌==◌, fold, map, take, option_map}
use Rattle.std.specs.Prelude.{◌≤◌, IfOk, IfSome, OnSome}
use Rattle.std.specs.Result.{result_map_both}
use Rattle.flow_io.specs.Devices.{InputView, MayFollow, ReadsInput, Gives, has_ended}
use Rattle.ipfix_templates.specs.Reading.{after_items, items_from}
use Rattle.ipfix_templates.specs.declared.table.TemplateTable.{TemplateTable}
use Rattle.ipfix_templates.specs.InForce.{InForce, no_templates, template_at}
use Rattle.ipfix_read.specs.Message.{ReadFault, MessageView, header_fault, message_next, after_message, ReadFaultKind}
use Rattle.ipfix_read.specs.Message.{HasHeader}
use Rattle.ipfix_read.specs.declared.fault.ReadFaultKind.TheVariants.{ReadFault as Unread}
use Rattle.ipfix_read.specs.declared.progress.State.{State}
pub use Rattle.ipfix_read.specs.declared.progress.State.TheVariants.{Ended, Failed, Going}
use Rattle.ipfix_read.specs.Fault.{failed_before, out_of_memory, read_fault, is_of_calls}
use Rattle.ipfix_read.specs.Fault.{is_of_reader, TruncatedHeader, TruncatedMessage}

-- Files (RFC 5655): consecutive messages.

-- The messages in bytes that begin at this offset, or the first fault; before them are `count` messages, after which
-- these templates are in force.
abbrev pub messages_from : InForce → ℕ → ℕ → List ℕ → Result (List MessageView) ReadFault
messages_from templates count offset bytes =
    items_from {S = InForce × ℕ} (λ rest. length rest == 0)
    (λ before. message_next before.0 before.1)
    (λ before m. (after_message before.0 m, before.1 + 1))
    (templates, count) offset bytes

-- the messages of a File, or its first fault
abbrev pub file_reading : List ℕ → Result (List MessageView) ReadFault
file_reading bytes = messages_from no_templates 0 0 bytes

-- A File may go on after these bytes: they have no fault, but may end within a message.
abbrev pub StopsReading : List ℕ → Type 0
StopsReading bytes = IfErr (file_reading bytes) (λ fault.
    (fault.kind ≡ TruncatedHeader) ⊎ (fault.kind ≡ TruncatedMessage))

-- Below: only contracts of parts and proofs use these; no promise of the program rests on them.

-- The bytes so far have no fault, but may end within a message, and this is the fault of a reader that failed there.
-- The fault has the offset of the message that was being read. `size` is the number of the bytes.
abbrev pub StopsAfter : ℕ → Result (List MessageView) ReadFault → ReadFault → Type 0
StopsAfter size (Ok messages) stop = stop ≡ read_fault size
StopsAfter size (Err fault) stop =
    ((fault.kind ≡ TruncatedHeader) ⊎ (fault.kind ≡ TruncatedMessage))
    × (stop ≡ read_fault fault.offset)

-- this is so of bytes that begin at an offset
abbrev pub StopsFrom : InForce → ℕ → ℕ → List ℕ → ReadFault → Type 0
StopsFrom templates count offset bytes stop =
    StopsAfter (offset + length bytes) (messages_from templates count offset bytes) stop

-- The messages in bytes, each with the offset at which it begins.
abbrev pub placed_from : InForce → ℕ → ℕ → List ℕ → Result (List (ℕ × MessageView)) ReadFault
placed_from templates count offset bytes =
    items_from {S = InForce × ℕ} (λ rest. length rest == 0)
    (λ before at rest. result_map_both (λ read. ((at, read.0), read.1)) (λ fault. fault)
    (message_next before.0 before.1 at rest))
    (λ before placed. (after_message before.0 placed.1, before.1 + 1))
    (templates, count) offset bytes

abbrev pub placed_messages : List ℕ → Result (List (ℕ × MessageView)) ReadFault
placed_messages bytes = placed_from no_templates 0 0 bytes

-- messages without their offsets
abbrev pub messages_in : List (ℕ × MessageView) → List MessageView
messages_in = map (λ placed. placed.1)

-- the bytes are the beginning of a message that isn't complete, and have no fault so far: if they ended here, the
-- message would be truncated
abbrev pub IsIncomplete : ℕ → List ℕ → Type 0
IsIncomplete count bytes =
    (header_fault count bytes ≡ Some TruncatedHeader) ⊎ (header_fault count bytes ≡ Some TruncatedMessage)

-- The messages of a File, one call after another.

-- the state between two calls: the table of templates, the offset and the number of messages from which a File is read
-- on, and whether there may be more messages
pub record ProgressView : Type 0 where
  pub table : TemplateTable
  pub offset : ℕ
  pub count : ℕ
  pub state : State

-- messages may follow, under these templates in force, after this number of messages and at this offset
abbrev pub IsAt : InForce → ℕ → ℕ → ProgressView → Type 0
IsAt templates count offset p =
    (template_at p.table ≡ templates) × (p.count ≡ count) × (p.offset ≡ offset) × (p.state ≡ Going)

-- The result of a call in the state Going, and the state after the call, by the bytes that the call took, and whether
-- it found the end of the input. A message consists of the taken bytes, whatever bytes follow them. There is no message
-- if there was no byte before the end. A fault is the first one of the File, in this message, whatever bytes may
-- follow, or that an allocation failed. It is the fault of a failed reader only if the taken bytes are the beginning of
-- a message and have no fault so far.
abbrev pub AnswersNext : ProgressView → Result (Option MessageView) ReadFault → ProgressView → Bool → List ℕ → Type 0
AnswersNext old (Ok (Some m)) new ended taken =
    ((rest : List ℕ) → message_next (template_at old.table) old.count old.offset (taken ++ rest) ≡ Ok (m, rest))
    × (template_at new.table ≡ after_message (template_at old.table) m)
    × (new.offset ≡ old.offset + length taken) × (new.count ≡ old.count + 1) × (new.state ≡ Going)
AnswersNext old (Ok None) new ended taken = (taken ≡ []) × (ended ≡ true) × (new.state ≡ Ended)
AnswersNext old (Err fault) new ended taken =
    (new.state ≡ Failed)
    × ((fault ≡ out_of_memory)
    ⊎ (((fault ≡ read_fault old.offset) × IsIncomplete old.count taken)
    ⊎ ((is_of_calls fault.kind ≡ false) × (0 < length taken)
    × ((rest : List ℕ) → MayFollow ended rest
    → message_next (template_at old.table) old.count old.offset (taken ++ rest) ≡ Err fault))))

-- whether a result is that the reader failed
abbrev pub is_read_fault : {A : Type 0} → Result A ReadFault → Bool
is_read_fault (Ok _) = false
is_read_fault (Err fault) = is_of_reader fault.kind

-- the message after this many messages has the taken bytes; there is no byte before the end; or this is the fault of
-- the header, or of a reader that failed before it
abbrev pub Gathers : ℕ → Result (Option (List ℕ)) ReadFaultKind → Bool → List ℕ → Type 0
Gathers count (Ok (Some front)) ended taken = front ≡ taken
Gathers count (Ok None) ended taken = (taken ≡ []) × (ended ≡ true)
Gathers count (Err kind) ended taken =
    ((kind ≡ Unread) × IsIncomplete count taken)
    ⊎ ((is_of_calls kind ≡ false) × (0 < length taken)
    × ((rest : List ℕ) → MayFollow ended rest → header_fault count (taken ++ rest) ≡ Some kind))

-- The bytes of the message of this length at the start of a buffer, if there is one.
abbrev pub front_in : List ℕ → Option ℕ → Option (List ℕ)
front_in buffer = option_map (λ size. take size buffer)

-- A message of the length that was found is at the start of a buffer, after `count` messages.
abbrev pub HoldsMessage : {E : Type 0} → ℕ → List ℕ → Result (Option ℕ) E → Type 0
HoldsMessage count buffer found = IfOk found (λ next. IfSome next (λ size.
    HasHeader (take size buffer) × (size ≤ length buffer) × (count < 4294967295)))

-- The taken bytes are the message that was read to the start of a buffer, or no message follows, or the header or the
-- reader has this fault, at the offset of the message.
abbrev pub GathersAt : ProgressView → List ℕ → Result (Option ℕ) ReadFault → Bool → List ℕ → Type 0
GathersAt now buffer found ended taken =
    Gathers now.count (result_map_both (front_in buffer) (λ fault. fault.kind) found) ended taken
    × IfErr found (λ fault. fault.offset ≡ now.offset)

-- A result that is a message is counted: messages may follow, and one more precedes them.
abbrev pub CountsMessage : ProgressView → Result (Option MessageView) ReadFault → ProgressView → Type 0
CountsMessage old result new = IfOk result (λ next. OnSome next ((new.count ≡ old.count + 1)
    × (new.count ≤ 4294967295) × (new.state ≡ Going)))

-- The result for what was read to the start of a buffer, and the state after it, whatever bytes were taken for it.
pub record Decodes (old : ProgressView) (buffer : List ℕ) (found : Result (Option ℕ) ReadFault)
    (result : Result (Option MessageView) ReadFault) (new : ProgressView) : Type 0 where
  pub answers : (ended : Bool) (taken : List ℕ) → GathersAt old buffer found ended taken
      → AnswersNext old result new ended taken
  pub none : found ≡ Ok None → (result ≡ Ok None) × (new ≡ record old { state = Ended })
  pub fault : (fault : ReadFault) → found ≡ Err fault
      → (result ≡ Err fault) × (new ≡ record old { state = Failed })
  pub device : is_read_fault result ≡ is_read_fault found
  pub counted : CountsMessage old result new

-- What a call does with a reader that has this view.
module _ {R : Type 0} (input : R → InputView) where
  -- What a call in this state has read to the start of a buffer. After the end of the File, or a fault, it reads
  -- nothing.
  pub record GathersCall (now : ProgressView) (old : R) (buffer : List ℕ) (found : Result (Option ℕ) ReadFault)
      (new : R) : Type 0 where
    pub going : now.state ≡ Going
        → ReadsInput (input old) (input new) (GathersAt now buffer found (has_ended (input new)))
    pub ended : now.state ≡ Ended → (found ≡ Ok None) × (new ≡ old)
    pub failed : now.state ≡ Failed → (found ≡ Err failed_before) × (new ≡ old)
    pub device : (input old).failed ≡ false → (input new).failed ≡ is_read_fault found

  -- A call for a message in each state: its result, the state after it, and what it read. After the end it returns that
  -- there is no message, and after a fault it returns that it failed before; then it reads nothing and changes nothing.
  -- The fault is that of a reader exactly if a read failed.
  pub record AnswersCall (old : ProgressView) (from : R) (result : Result (Option MessageView) ReadFault)
      (new : ProgressView) (then : R) : Type 0 where
    pub going : old.state ≡ Going
        → ReadsInput (input from) (input then) (AnswersNext old result new (has_ended (input then)))
    pub ended : old.state ≡ Ended → (result ≡ Ok None) × (new ≡ old) × (then ≡ from)
    pub failed : old.state ≡ Failed → (result ≡ Err failed_before) × (new ≡ old) × (then ≡ from)
    pub device : (input from).failed ≡ false → (input then).failed ≡ is_read_fault result

-- The calls of reading that began under these templates in force, after this number of messages and at this offset.
module _ (templates : InForce) (count offset : ℕ) where
  -- The bytes that a reader has returned since `start` are these messages, each with its offset. The state between two
  -- calls is the one after these messages.
  pub record IsReadTo (start : InputView) (messages : List (ℕ × MessageView)) (p : ProgressView)
      (now : InputView) : Type 0 where
    pub taken : List ℕ
    pub consumed : Gives start now taken
    pub read : (rest : List ℕ) → placed_from templates count offset (taken ++ rest)
        ≡ after_items messages (placed_from (template_at p.table) p.count p.offset rest)
    pub table : template_at p.table ≡ fold after_message templates (messages_in messages)
    pub counted : p.count ≡ count + length messages
    pub placed : p.offset ≡ offset + length taken

  -- The meaning of a result for the bytes: their messages begin with those so far and one more at this offset; the end
  -- was found, and the bytes returned are the messages so far; or the fault is their first one, whatever bytes may
  -- follow, unless it is that of a failed allocation, or of a reader that failed before a fault.
  abbrev pub JoinsFile : InputView → List (ℕ × MessageView) → ℕ
      → Result (Option MessageView) ReadFault → ProgressView → InputView → Type 0
  JoinsFile start placed at (Ok (Some m)) new now = IsReadTo start (placed ++ (at, m) ∷ []) new now
  JoinsFile start placed at (Ok None) new now = ReadsInput start now (λ bytes.
      (has_ended now ≡ true) × (placed_from templates count offset bytes ≡ Ok placed))
  JoinsFile start placed at (Err fault) new now = ReadsInput start now (λ bytes. (fault ≡ out_of_memory)
      ⊎ (StopsFrom templates count offset bytes fault
      ⊎ ((is_of_calls fault.kind ≡ false)
      × ((rest : List ℕ) → MayFollow (has_ended now) rest
      → messages_from templates count offset (bytes ++ rest) ≡ Err fault))))
