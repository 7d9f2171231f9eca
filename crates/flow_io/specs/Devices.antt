use Rattle.std.specs.Prelude.{◌≡◌, ◌==◌, ◌&&◌, ◌||◌, suc, ℕ, Bool, true, false, List, [], Option}
use Rattle.std.specs.Prelude.{Result, Ok, Err, length, take, ◌⊎◌, ◌++◌, nat_lt, unwrap_or}
use Rattle.std.specs.Io.KnownBytes.{Appends, Consumes}
pub use Rattle.flow_io.specs.declared.devices.LastCall.{LastCall}
pub use Rattle.flow_io.specs.declared.devices.LastCall.TheVariants.{FailedFlush, Flush, Nothing, Write}
use Rattle.flow_io.specs.declared.whole.ReadStop.{ReadStop}
use Rattle.flow_io.specs.declared.whole.ReadStop.TheVariants.{DeviceFault, NoMemory}

-- What contracts see of a reader: whether a read has failed, the bytes that reads have returned, whether the last read
-- returned no byte although there was room for one, and the bytes that are left, if the reader reports them.
pub record InputView : Type 0 where
  pub failed : Bool
  pub returned : List ℕ
  pub stopped : Bool
  pub left : Option (List ℕ)

-- What contracts see of a writer: whether a call has failed, the last call, how many calls were flushes, the bytes that
-- writes have taken, and all bytes that the writer holds, if it reports them.
pub record OutputView : Type 0 where
  pub failed : Bool
  pub last_call : LastCall
  pub flushes : ℕ
  pub taken : List ℕ
  pub contents : Option (List ℕ)

-- the last read found the end of the input, and no byte is left, as far as the reader reports it
abbrev pub has_ended : InputView → Bool
has_ended input = input.stopped && length (unwrap_or input.left []) == 0

-- these bytes may follow those that reads have returned: none after the end, otherwise any
abbrev pub MayFollow : Bool → List ℕ → Type 0
MayFollow ended rest = ended ≡ true → rest ≡ []

-- writes take these bytes; a writer that reports its bytes holds them after those that it held before
pub record Takes (old new : OutputView) (bytes : List ℕ) : Type 0 where
  pub taken : new.taken ≡ old.taken ++ bytes
  pub contents : Appends old.contents new.contents bytes

-- the writer took exactly these bytes, and was then flushed once
abbrev pub WritesWhole : OutputView → OutputView → List ℕ → Type 0
WritesWhole old new bytes =
    Takes old new bytes × (new.last_call ≡ Flush) × (new.flushes ≡ suc old.flushes)
    × (new.failed ≡ false)

-- the writer was to take these bytes and then be flushed, and failed: at a write, with a prefix of them taken, or at
-- the flush, with all of them taken
abbrev pub StopsWriting : OutputView → OutputView → List ℕ → Type 0
StopsWriting old new bytes =
    (((front rest : List ℕ) × (bytes ≡ front ++ rest) × Takes old new front
    × (new.last_call ≡ Write) × (new.flushes ≡ old.flushes))
    ⊎ (Takes old new bytes × (new.last_call ≡ FailedFlush)
    × (new.flushes ≡ suc old.flushes))) × (new.failed ≡ true)

-- Below: only contracts of parts and proofs use these; no promise of the program rests on them.

-- When a call makes a reader or a writer failed: from `old` to `new`, where `true` means failed.

-- an `Err` makes the device failed, and an `Ok` leaves it as it was
abbrev pub FailsOnErr : {A E : Type 0} → Bool → Bool → Result A E → Type 0
FailsOnErr old new (Ok _) = new ≡ old
FailsOnErr old new (Err _) = new ≡ true

-- a write makes the device failed if it returns `Err`, or takes none of the bytes although there are some
abbrev pub FailsOnShortWrite : {E : Type 0} → Bool → Bool → Result ℕ E → List ℕ → Type 0
FailsOnShortWrite old new (Ok count) bytes = new ≡ (old || (count == 0 && nat_lt 0 (length bytes)))
FailsOnShortWrite old new (Err _) bytes = new ≡ true

-- the last call of a writer after a flush with this result
abbrev pub flush_call : {A E : Type 0} → Result A E → LastCall
flush_call (Ok _) = Flush
flush_call (Err _) = FailedFlush

-- whether the reader failed, from the result of reading it whole
abbrev pub is_failed_read : {A : Type 0} → Result A ReadStop → Bool
is_failed_read (Ok _) = false
is_failed_read (Err DeviceFault) = true
is_failed_read (Err NoMemory) = false

-- Which bytes a reader returns.

-- reads return these bytes; of a reader that reports the bytes left they are the first ones
pub record Gives (old new : InputView) (bytes : List ℕ) : Type 0 where
  pub returned : new.returned ≡ old.returned ++ bytes
  pub left : Consumes old.left new.left bytes

-- a read returns the `count` bytes at the start of the buffer if it returns `Ok count`, and none if it returns `Err`
abbrev pub GivesCount : {E : Type 0} → InputView → InputView → Result ℕ E → List ℕ → Type 0
GivesCount old new (Ok count) buffer = Gives old new (take count buffer)
GivesCount old new (Err _) buffer = Gives old new []

-- reads return some bytes, for which the property holds
abbrev pub ReadsInput : InputView → InputView → (List ℕ → Type 0) → Type 0
ReadsInput old new P = (bytes : List ℕ) × Gives old new bytes × P bytes

-- a read finds the end if it returns no byte although there is room for one
abbrev pub finds_end : {E : Type 0} → Result ℕ E → List ℕ → Bool
finds_end (Ok count) buffer = count == 0 && nat_lt 0 (length buffer)
finds_end (Err _) buffer = false

-- Which bytes a writer takes.

-- a write takes the first `count` bytes of the slice if it returns `Ok count`, and none if it returns `Err`
abbrev pub TakesCount : {E : Type 0} → OutputView → OutputView → Result ℕ E → List ℕ → Type 0
TakesCount old new (Ok count) slice = Takes old new (take count slice)
TakesCount old new (Err _) slice = Takes old new []

-- a writer was to take these bytes and then be flushed, and did or failed, as the result says
abbrev pub Ends : {A E : Type 0} → OutputView → OutputView → List ℕ → Result A E → Type 0
Ends old new bytes (Ok _) = WritesWhole old new bytes
Ends old new bytes (Err _) = StopsWriting old new bytes

-- the same for one of the texts that a value may have
abbrev pub WritesText : {A E : Type 0} → OutputView → OutputView → (List ℕ → Type 0) → Result A E → Type 0
WritesText old new Is result = (text : List ℕ) × Is text × Ends old new text result
