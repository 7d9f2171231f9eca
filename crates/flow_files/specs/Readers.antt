use Rattle.std.specs.Prelude.{◌≡◌, ◌≤◌, ◌<◌, ◌||◌, ◌++◌, ⊤, ℕ, List, [], Option, Some, Err, Bool, true, false}
use Rattle.std.specs.Option.{option_map_or}
use Rattle.flow_io.specs.Devices.{InputView, MayFollow, ReadsInput, has_ended}
use Rattle.ipfix_read.specs.Messages.{StopsReading}
use Rattle.flow_files.specs.BytesFault.{is_out_of_memory, role_of}
use Rattle.flow_files.specs.ByFile.{ByFile, Role, at, turn}
use Rattle.flow_files.specs.ByFile as roles
use Rattle.flow_files.specs.Outcomes.{BytesFault, Outcome}
use Rattle.flow_files.specs.Sources.{Text}
pub use Rattle.flow_files.specs.declared.inputs.Source.{Source}
pub use Rattle.flow_files.specs.declared.fault.RunFault.{RunFault}
pub use Rattle.flow_files.specs.declared.fault.RunFault.TheVariants.{CannotOpen, CannotRead}
pub use Rattle.flow_files.specs.declared.fault.RunFault.TheVariants.{CannotWrite, File, NoMemory, Usage}

-- What contracts see of the files that a command reads, and the faults that reading them may have.

-- the reader of each file that the command has
abbrev pub Readers : Type 0 → Type 0
Readers R = ByFile (Option (Source R))

-- the name of a file; one that isn't there has an empty name
abbrev pub name_in : {R : Type 0} → Option (Source R) → Text
name_in file = option_map_or (λ source. source.name.now) file []

-- the text of an input may be this one: the bytes that reads have returned, and then none after the end, otherwise any
abbrev pub MayHave : InputView → Text → Type 0
MayHave input text =
    (rest : List ℕ) × MayFollow (has_ended input) rest × (text ≡ input.returned ++ rest)

-- the files that are read after this one are untouched
abbrev pub AreLaterUntouched : {R : Type 0} → Role → Readers R → Readers R → Type 0
AreLaterUntouched role old new =
    (later : Role) → turn role < turn later → at later new ≡ at later old

-- The function is what contracts see of a reader.
module _ {R : Type 0} (input : R → InputView) where
  -- what contracts see of a file; one that isn't there has no bytes
  abbrev pub view_of : Option (Source R) → InputView
  view_of file = option_map_or (λ source. input source.reader) file
      (record {
        failed = false;
        returned = [];
        stopped = true;
        left = Some [];
      })

  abbrev pub any_failed : Readers R → Bool
  any_failed files =
      (view_of files.map).failed || ((view_of files.list).failed
      || ((view_of files.certificate).failed || (view_of files.flows).failed))

  -- nothing of the files is read yet
  abbrev pub AreUnread : Readers R → Type 0
  AreUnread files = (role : Role) → (view_of (at role files)).returned ≡ []

  -- the files may have these texts
  abbrev pub AreTexts : Readers R → ByFile Text → Type 0
  AreTexts files texts = (role : Role) → MayHave (view_of (at role files)) (at role texts)

  -- A fault of a command, by the outcomes that it may have over the texts of the files. A fault of a file's bytes is
  -- the outcome over all texts that the files may have. It is a fault of a reader exactly if one failed. Then no
  -- earlier file has a fault, and of a File the reader returned whole messages without a fault and the beginning of one
  -- that isn't complete. Both have the name of the file.
  abbrev pub IsFaultOf : (ByFile Text → Outcome → Type 0) → Readers R → Readers R → RunFault
      → Type 0
  IsFaultOf Is old new NoMemory = any_failed new ≡ false
  IsFaultOf Is old new (CannotRead file) = (role : Role) × (file.now ≡ name_in (at role old))
      × ((view_of (at role new)).failed ≡ true) × AreLaterUntouched role old new
      × ((texts : ByFile Text) → AreTexts new texts → (fault : BytesFault) → Is texts (Err fault)
      → turn role ≤ turn (role_of fault))
      × (role ≡ roles.Flows → StopsReading (view_of new.flows).returned)
  IsFaultOf Is old new (File file fault) = (file.now ≡ name_in (at (role_of fault) old))
      × ((texts : ByFile Text) → AreTexts new texts → Is texts (Err fault))
      × AreLaterUntouched (role_of fault) old new × (any_failed new ≡ false)
  IsFaultOf Is old new fault = ⊥

-- Below: only contracts of parts and proofs use these; no promise of the program rests on them.

-- the fault for one of the bytes of the file with this name
abbrev pub IsFaultFor : Text → BytesFault → RunFault → Type 0
IsFaultFor name fault NoMemory = is_out_of_memory fault ≡ true
IsFaultFor name fault (File file other) =
    (file.now ≡ name) × (other ≡ fault) × (is_out_of_memory fault ≡ false)
IsFaultFor name fault run = ⊥

-- reads have returned more of the files
abbrev pub AreReadOn : {R : Type 0} → (R → InputView) → Readers R → Readers R → Type 0
AreReadOn input old new =
    (role : Role) → ReadsInput (view_of input (at role old)) (view_of input (at role new)) (λ _. ⊤)
