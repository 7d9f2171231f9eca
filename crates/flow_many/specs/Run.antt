use Rattle.std.specs.Prelude.{◌≡◌, ◌+◌, ◌++◌, ◌∷◌, ◌⊎◌, ⊤, List, [], Option}
use Rattle.std.specs.Prelude.{Some, None, Result, Ok, Err, false, true, length}
use Rattle.flow_io.specs.Devices.{InputView, OutputView, ReadsInput, StopsWriting, WritesWhole}
use Rattle.ipfix_read.specs.Messages.{StopsReading}
use Rattle.label_lookup.specs.Labelling.{Labelling}
use Rattle.flow_files.specs.declared.by_file.ByFile.{ByFile}
use Rattle.flow_files.specs.Reports.{faults_of}
use Rattle.flow_files.specs.Outcomes.{source_reading}
use Rattle.flow_files.specs.Sources.{Text}
use Rattle.flow_files.specs.Readers.{AreTexts, IsFaultOf, MayHave, Readers, any_failed}
use Rattle.flow_files.specs.declared.fault.RunFault.{RunFault}
use Rattle.flow_files.specs.declared.fault.RunFault.TheVariants.{CannotOpen, CannotRead, CannotWrite, File, NoMemory}
use Rattle.flow_many.specs.Files.{Placed, Refusal, files_reading}
use Rattle.flow_many.specs.Headline.{IsHeadline}
use Rattle.flow_many.specs.Output.{outcome_of, refusal_of, labels_from}
use Rattle.flow_many.specs.Request.{Command, files_of, request_of}

-- What a run of a command does with the readers of its files and the writer of its output.

-- `answers` has the possible results of opening a name: a reader, or `None`. The other function is what contracts see
-- of a reader.
module _ {R : Type 0} (answers : Text → Option R → Type 0) (input : R → InputView) where
  -- A File was opened by its name, and read, with no byte lost: the reader that was opened, and after its last read.
  pub record WasRead (name : Text) (opened last : R) : Type 0 where
    pub answered : answers name (Some opened)
    pub unread : (input opened).returned ≡ []
    pub read : ReadsInput (input opened) (input last) (λ _. ⊤)

  -- the Files with these names were read, in order, and no reader failed
  abbrev pub WereRead : List Text → List (R × R) → Type 0
  WereRead [] [] = Unit {0}
  WereRead (name ∷ names) (r ∷ readers) =
      WasRead name r.0 r.1 × ((input r.1).failed ≡ false) × WereRead names readers
  WereRead names readers = ⊥

  -- Files that were read may have these texts
  abbrev pub HaveTexts : List (R × R) → List Text → Type 0
  HaveTexts [] [] = Unit {0}
  HaveTexts (r ∷ readers) (text ∷ texts) = MayHave (input r.1) text × HaveTexts readers texts
  HaveTexts readers texts = ⊥

  -- the Files before the one with this name were read without a fault
  pub record AreSound (refusal : Refusal) (names : List Text) (name : Text) : Type 0 where
    pub earlier : List Text
    pub later : List Text
    pub split : names ≡ earlier ++ name ∷ later
    pub readers : List (R × R)
    pub were_read : WereRead earlier readers
    pub sound : (texts : List Text) → HaveTexts readers texts
        → (files : List (List Placed)) × (files_reading refusal texts ≡ Ok files)

  -- Reading Files ended with this fault. Each File before the faulty one was read without a fault, and no later one was
  -- opened. A fault of a File's bytes or messages is the first one of all texts that the Files may have. It is a fault
  -- of a reader only if one failed, which returned whole messages and the beginning of one that isn't complete.
  abbrev pub IsFaultOfFiles : Refusal → List Text → RunFault → Type 0
  IsFaultOfFiles refusal names NoMemory = Unit {0}
  IsFaultOfFiles refusal names (CannotOpen file) =
      AreSound refusal names file.now × answers file.now None
  IsFaultOfFiles refusal names (CannotRead file) = AreSound refusal names file.now
      × (opened last : R) × WasRead file.now opened last × ((input last).failed ≡ true)
      × StopsReading (input last).returned
  IsFaultOfFiles refusal names (File file fault) = (before : AreSound refusal names file.now)
      × (opened last : R) × WasRead file.now opened last × ((input last).failed ≡ false)
      × ((texts : List Text) (text : Text)
      → HaveTexts before.readers texts → MayHave (input last) text
      → files_reading refusal (texts ++ text ∷ [])
      ≡ Err (record { file = length before.readers + 1; fault = fault }))
  IsFaultOfFiles refusal names fault = ⊥

-- What a run of a command does, if nothing of the map or the list is read before, and neither its reader
-- nor the writer has failed. The last function is what contracts see of a writer.
module _ {R W : Type 0} (answers : Text → Option R → Type 0) (input : R → InputView) (output : W → OutputView) where
  -- The Files were read in order, and the writer took exactly the output over each text that the files may have, for
  -- which the headline holds, and was then flushed once. After a write fault it has a prefix of the output, or all of
  -- it if the flush failed. Any other fault comes before it is called: one of the map or the list, or of the Files. A
  -- fault of a device comes exactly from a device that failed.
  abbrev pub EndsAs : Command → Readers R → Readers R → W → W
      → Result (Unit {0}) RunFault → Type 0
  EndsAs command old new writer writer' (Ok done) =
      (readers : List (R × R)) × WereRead answers input (files_of (request_of command)) readers
      × (any_failed input new ≡ false) × (out : Text)
      × ((labels_text : ByFile Text) (texts : List Text) → AreTexts input new labels_text
      → HaveTexts answers input readers texts
      → (outcome_of command labels_text texts ≡ Ok out) × IsHeadline command labels_text texts out)
      × WritesWhole (output writer) (output writer') out
  EndsAs command old new writer writer' (Err CannotWrite) =
      (readers : List (R × R)) × WereRead answers input (files_of (request_of command)) readers
      × (any_failed input new ≡ false) × (out : Text)
      × ((labels_text : ByFile Text) (texts : List Text) → AreTexts input new labels_text
      → HaveTexts answers input readers texts → outcome_of command labels_text texts ≡ Ok out)
      × StopsWriting (output writer) (output writer') out
  EndsAs command old new writer writer' (Err fault) = (writer' ≡ writer)
      × (IsFaultOf input (λ labels_text outcome. faults_of (λ read.
      source_reading (labels_from command) labels_text ≡ read) outcome) old new fault
      ⊎ ((any_failed input new ≡ false) × (labels : Option Labelling)
      × ((labels_text : ByFile Text) → AreTexts input new labels_text
      → source_reading (labels_from command) labels_text ≡ Ok labels)
      × IsFaultOfFiles answers input (refusal_of command labels)
      (files_of (request_of command)) fault))
