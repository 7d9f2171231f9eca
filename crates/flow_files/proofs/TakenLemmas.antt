-- The messages of a File, call by call.
use Rattle.std.proofs.Common.{◌≡◌, ◌∙◌, ◌≤◌, ◌+◌, ◌⊎◌, inl, inr, ℕ, List, [], ◌++◌, Option, Some, None, Result, Ok, Err, true, false, length, refl, sym, ap, subst, arith}
use Rattle.std.specs.Prelude.{IfErr, OnSome, ⊤}
use Rattle.std.specs.Result.{IsErrAnd, result_map_both}
use Rattle.flow_io.specs.Devices.{InputView, MayFollow, ReadsInput, has_ended}
use Rattle.ipfix_templates.specs.InForce.{no_templates}
use Rattle.ipfix_read.specs.Fault.{is_of_calls, is_of_reader, out_of_memory}
use Rattle.ipfix_read.specs.declared.fault.ReadFaultKind.TheVariants.{TruncatedHeader, TruncatedMessage}
use Rattle.ipfix_read.specs.Messages.{AnswersNext, IsAt, ProgressView, StopsAfter, StopsFrom, StopsReading, file_reading, messages_in, placed_messages}
use Rattle.ipfix_read.specs.Laws.{CallsJoinFile}
use Rattle.ipfix_read.specs.declared.progress.State.TheVariants.{Going}
use Rattle.ipfix_read.specs.Message.{MessageView}
use Rattle.ipfix_read.specs.declared.fault.ReadFault.{ReadFault}
use Rattle.ipfix_read.proofs.Joining.{calls_start}
use Rattle.ipfix_read.proofs.Readings.{not_of_reader, placed_are_messages}
use Rattle.flow_files.specs.declared.bytes_fault.BytesFault.TheVariants.{Flows as InFlows}
use Rattle.flow_files.specs.BytesFault.{is_out_of_memory}
use Rattle.flow_files.specs.Reports.{AreReadSoFar, IsFaultOfCall, IsFresh, ReadsInto, ReadsNext}
use Rattle.flow_files.specs.Outcomes.{with_bytes_fault}
use Rattle.flow_files.specs.Sources.{Text}
use Rattle.flow_files.specs.Readers.{CannotRead, File, NoMemory, RunFault, Source, name_in, view_of}
use Rattle.flow_files.proofs.ReadLemmas.{all_read, handed_on, text_is, with_fault_of}

-- a fault of a reader that stopped is one of a reader
stopped : (size : ℕ) (reading : Result (List MessageView) ReadFault) (stop : ReadFault) → StopsAfter size reading stop → is_of_reader stop.kind ≡ true
stopped size (Ok messages) stop is = ap (λ (f : ReadFault). is_of_reader f.kind) is
stopped size (Err fault) stop is = ap (λ (f : ReadFault). is_of_reader f.kind) is.1

-- the bytes before a reader stopped have no fault but the end within a message
may_go_on : (bytes : List ℕ) (stop : ReadFault) → StopsFrom no_templates 0 0 bytes stop → StopsReading bytes
may_go_on bytes stop = by (file_reading bytes)
  where
    by : (reading : Result (List MessageView) ReadFault) → StopsAfter (0 + length bytes) reading stop
        → IfErr reading (λ fault. (fault.kind ≡ TruncatedHeader) ⊎ (fault.kind ≡ TruncatedMessage))
    by (Ok messages) is = tt
    by (Err fault) is = is.0

-- a fault of the messages of bytes is that of the messages with their offsets
placed_err : (all : Result (List (ℕ × MessageView)) ReadFault) (fault : ReadFault) → result_map_both messages_in (λ (f : ReadFault). f) all ≡ Err fault
    → all ≡ Err fault
placed_err (Ok placed) fault is = absurd (cc)
placed_err (Err own) fault is = cc

placed_fault : (bytes : List ℕ) (fault : ReadFault) → file_reading bytes ≡ Err fault → placed_messages bytes ≡ Err fault
placed_fault bytes fault is = placed_err (placed_messages bytes) fault (sym (placed_are_messages no_templates 0 0 bytes) ∙ is)

-- a fault of a call is the one of the bytes, of a reader that stopped, or that an allocation failed
fault_read : {R : Type 0} (input : R → InputView) (start now : Option (Source R)) (fault : ReadFault) (made : RunFault)
    → IsFaultOfCall (name_in start) fault made → (view_of input start).returned ≡ [] → (view_of input now).failed ≡ is_of_reader fault.kind
    → ReadsInput (view_of input start) (view_of input now) (λ bytes. (fault ≡ out_of_memory) ⊎ (StopsFrom no_templates 0 0 bytes fault
    ⊎ ((is_of_calls fault.kind ≡ false) × ((rest : List ℕ) → MayFollow (has_ended (view_of input now)) rest → file_reading (bytes ++ rest) ≡ Err fault))))
    → ReadsInto input {T = List (ℕ × MessageView)} (λ read all. read ≡ all) start now (Err made)
fault_read input start now fault NoMemory is none works (bytes, gives, joined) = record { reads = (bytes, gives, tt); gives = works ∙ is.0 }
fault_read input start now fault (CannotRead file) (named, reader) none works (bytes, gives, inl memory) =
    let wrong : is_of_reader fault.kind ≡ false = not_of_reader fault.kind (ap (λ (f : ReadFault). is_of_calls f.kind) memory) in cc
fault_read input start now fault (CannotRead file) (named, reader) none works (bytes, gives, inr (inl stops)) =
    let goes_on : StopsReading (view_of input now).returned = subst StopsReading (sym (all_read none gives)) (may_go_on bytes fault stops) in
    record { reads = (bytes, gives, tt); gives = (works ∙ reader, named, goes_on) }
fault_read input start now fault (CannotRead file) (named, reader) none works (bytes, gives, inr (inr (calls, has))) =
    let wrong : is_of_reader fault.kind ≡ false = not_of_reader fault.kind calls in cc
fault_read input start now fault (File file made) (bytes_fault, is) none works (bytes, gives, inl memory) =
    let wrong : is_out_of_memory (InFlows fault) ≡ true = ap (λ (f : ReadFault). is_out_of_memory (InFlows f)) memory in
    let other : is_out_of_memory (InFlows fault) ≡ false = is.2 in cc
fault_read input start now fault (File file made) (bytes_fault, is) none works (bytes, gives, inr (inl stops)) =
    let wrong : is_of_reader fault.kind ≡ true = stopped (0 + length bytes) (file_reading bytes) fault stops in cc
fault_read input start now fault (File file made) (bytes_fault, is) none works (bytes, gives, inr (inr (calls, has))) = record {
  reads = (bytes, gives, tt);
  gives = (
    works ∙ bytes_fault,
    is.0,
    λ text (rest, follows, all).
        ap (λ (r : Result (List (ℕ × MessageView)) ReadFault). with_bytes_fault InFlows r)
        (ap placed_messages (all ∙ ap (λ (l : List ℕ). l ++ rest) (all_read none gives)) ∙ placed_fault (bytes ++ rest) fault (has rest follows)) ∙ ap Err (sym is.1),
  );
}
fault_read input start now fault made (bytes_fault, is) none works joined = absurd is

-- before any call
pub none_so_far : {R : Type 0} (input : R → InputView) (file : Option (Source R)) (p : ProgressView) → IsAt no_templates 0 0 p
    → IsFresh input file → AreReadSoFar input file [] p file
none_so_far input file p at (none, works) =
    record { read = calls_start no_templates 0 0 (view_of input file) p at; going = at.3; works = works; name = refl; first = none }

-- the messages so far are read, and this holds of them
pub record AreReadInto {R : Type 0} (input : R → InputView) (Has : List (ℕ × MessageView) → Type 0) (start : Option (Source R)) (p : ProgressView) (now : Option (Source R)) : Type 0 where
  pub messages : List (ℕ × MessageView)
  pub so_far : AreReadSoFar input start messages p now
  pub is : Has messages

module _ {R : Type 0} {input : R → InputView} {Has : List (ℕ × MessageView) → Type 0} {start now : Option (Source R)} where
  -- an allocation failed, and nothing of the file is lost
  pub no_memory : {result : Result (Unit {0}) RunFault} → ReadsInput (view_of input start) (view_of input now) (λ _. ⊤) → (view_of input now).failed ≡ false
      → IsErrAnd result (λ fault. fault ≡ NoMemory) → ReadsInto input (λ messages _. Has messages) start now result
  no_memory {result = result} reads works same =
      handed_on (ReadsInto input (λ messages _. Has messages) start now) result NoMemory same (record { reads = reads; gives = works })

  -- the next call has a fault
  pub fault_next : {fault : RunFault} {result : Result (Unit {0}) RunFault} → IsErrAnd result (λ other. other ≡ fault)
      → ReadsInto input {T = List (ℕ × MessageView)} (λ read all. read ≡ all) start now (Err fault) → ReadsInto input (λ messages _. Has messages) start now result
  fault_next {fault = fault} {result = result} same is =
      handed_on (ReadsInto input (λ messages _. Has messages) start now) result fault same (with_fault_of fault (λ text f reads. reads) is)

  -- the next call returns no message
  pub at_end : {p : ProgressView} {before : Option (Source R)} (had : AreReadInto input Has start p before)
      → ReadsInto input (λ read all. read ≡ all) start now (Ok had.messages) → ReadsInto input {T = Unit {0}} (λ messages _. Has messages) start now (Ok tt)
  at_end had is = record {
    reads = is.reads;
    gives = (is.gives.0, λ text may. let (messages, reading, same) = is.gives.1 text may in (had.messages, reading ∙ ap Ok same, had.is));
  }

-- the result of the next call, joined to the messages before it
module _ (joins : CallsJoinFile) {R : Type 0} (input : R → InputView) (start : Option (Source R)) (messages : List (ℕ × MessageView)) (p p' : ProgressView)
    (now then : Option (Source R)) (so_far : AreReadSoFar input start messages p now) where
  pub ends : ReadsInput (view_of input now) (view_of input then) (AnswersNext p (Ok None) p' (has_ended (view_of input then)))
      → (view_of input then).failed ≡ false → ReadsInto input (λ read all. read ≡ all) start then (Ok messages)
  ends answers works =
      let (bytes, gives, (end, reading)) = joins _ _ _ (view_of input start) (view_of input now) (view_of input then)
      messages p p' (Ok None) so_far.read answers in
      record {
        reads = (bytes, gives, tt);
        gives = (
          works,
          λ text may.
              let whole = ap placed_messages (text_is (view_of input then) text bytes (all_read so_far.first gives) end may) ∙ reading in
              (messages, ap (λ (r : Result (List (ℕ × MessageView)) ReadFault). with_bytes_fault InFlows r) whole, refl),
        );
      }

  pub next_read : (result : Option MessageView) → ReadsInput (view_of input now) (view_of input then) (AnswersNext p (Ok result) p' (has_ended (view_of input then)))
      → OnSome result ((p'.count ≡ p.count + 1) × (p'.count ≤ 4294967295) × (p'.state ≡ Going)) → (view_of input then).failed ≡ false → name_in then ≡ name_in now
      → ReadsNext input start messages p.offset (Ok result) p' then
  next_read None answers counted works same = ends answers works
  next_read (Some m) answers (counted, most, going) works same = (
    record {
      read = joins _ _ _ (view_of input start) (view_of input now) (view_of input then) messages p p' (Ok (Some m)) so_far.read answers;
      going = going;
      works = works;
      name = same ∙ so_far.name;
      first = so_far.first;
    },
    omega (arith, so_far.read.counted, counted, most),
  )

  pub with_fault : (fault : ReadFault) (made : RunFault) → IsFaultOfCall (name_in now) fault made
      → ReadsInput (view_of input now) (view_of input then) (AnswersNext p (Err fault) p' (has_ended (view_of input then)))
      → (view_of input then).failed ≡ is_of_reader fault.kind → ReadsInto input {T = List (ℕ × MessageView)} (λ read all. read ≡ all) start then (Err made)
  with_fault fault made is answers device =
      fault_read input start then fault made (subst (λ (name : Text). IsFaultOfCall name fault made) so_far.name is) so_far.first device
      (joins _ _ _ (view_of input start) (view_of input now) (view_of input then) messages p p' (Err fault) so_far.read answers)
