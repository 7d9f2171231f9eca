use Rattle.std.specs.Prelude.{◌≡◌, ⊤, ◌≤◌, ◌<◌, ◌*◌, ◌++◌, ◌∷◌, [], List, ℕ, Option, Some}
use Rattle.std.specs.Prelude.{None, is_some, Result, Ok, Err, false, true, length, option_map}
use Rattle.std.specs.Borrow.{Bor}
use Rattle.flow_io.specs.Devices.{InputView, OutputView, ReadsInput, StopsWriting, WritesWhole}
use Rattle.pmap_model.specs.MapText.{map_of}
use Rattle.pmap_model.specs.PrefixList.{list_of}
use Rattle.pmap_model.specs.MapModel.{Label}
use Rattle.label_lookup.specs.Labelling.{Labelling, StretchModel, label_where, labelling_of_list}
use Rattle.label_lookup.specs.Labelling.{labelling_of_map, labelling_of_stretches}
use Rattle.ipfix_read.specs.Fault.{is_of_reader}
use Rattle.ipfix_templates.specs.InForce.{no_templates}
use Rattle.ipfix_read.specs.Messages.{IsReadTo, ProgressView, StopsReading, placed_messages}
use Rattle.ipfix_read.specs.declared.progress.State.TheVariants.{Going}
use Rattle.ipfix_read.specs.declared.fault.ReadFault.{ReadFault}
use Rattle.ipfix_read.specs.Message.{MessageView}
use Rattle.flow_rows.specs.Counts.{rows_of_messages}
use Rattle.flow_rows.specs.Elements.{RowView}
use Rattle.flow_filter.specs.Condition.{Condition, passing}
use Rattle.flow_uniq.specs.Groups.{GroupsModel, groups_of, record_count}
use Rattle.flow_files.specs.ByFile.{ByFile, Role, at, turn}
use Rattle.flow_files.specs.declared.bytes_fault.BytesFault.TheVariants.{Flows as InFlows}
use Rattle.flow_files.specs.Outcomes.{BytesFault, Outcome, labels_reading}
use Rattle.flow_files.specs.Outcomes.{report_reading, source_reading, with_bytes_fault}
use Rattle.flow_files.specs.declared.label_file.LabelFile.{LabelFile}
use Rattle.flow_files.specs.declared.label_file.LabelFile.TheVariants.{Map, List as Prefixes}
use Rattle.flow_files.specs.Sources.{Text}
use Rattle.flow_files.specs.Readers.{AreReadOn, CannotRead, CannotWrite, File, IsFaultFor, IsFaultOf, MayHave}
use Rattle.flow_files.specs.Readers.{NoMemory, Readers, RunFault, Source, any_failed, name_in, view_of}
use Rattle.flow_files.specs.declared.filtered.Filtered.{Filtered}
use Rattle.flow_files.specs.declared.labels.LabelsRead.{LabelsRead}
use Rattle.flow_files.specs.declared.labels.LabelsRead.TheVariants as read

-- What the parts of a command read of its files, and what is built from it.

-- the labelling of a map or a list
abbrev pub labelling_read : LabelsRead → Labelling
labelling_read (read.Map map) = labelling_of_map (map_of map)
labelling_read (read.List list) = labelling_of_list (list_of list)

abbrev pub labelling_found : Option (Bor StretchModel) → Option Labelling
labelling_found = option_map (λ index. labelling_of_stretches index.now)

-- the rows of messages that meet a condition
abbrev pub passing_rows : Condition → Option Labelling → List MessageView → List RowView
passing_rows condition labels messages = passing condition labels (rows_of_messages messages)

-- the table of the labels of a map or a list
abbrev pub table_read : LabelsRead → List Label
table_read (read.Map map) = map.labels
table_read (read.List list) = list.labels

-- The writer has taken a text of these, or a prefix of it. Out of memory comes before it is called.
abbrev pub IsTextWritten : {W : Type 0} → (W → OutputView) → (Text → Type 0) → W → W → Result (Unit {0}) RunFault
    → Type 0
IsTextWritten output Is old new (Ok done) = (text : Text) × Is text × WritesWhole (output old) (output new) text
IsTextWritten output Is old new (Err CannotWrite) =
    (text : Text) × Is text × StopsWriting (output old) (output new) text
IsTextWritten output Is old new (Err NoMemory) = new ≡ old
IsTextWritten output Is old new (Err fault) = ⊥

-- the fault for that of a call for a message of the file with this name
abbrev pub IsFaultOfCall : Text → ReadFault → RunFault → Type 0
IsFaultOfCall name fault (CannotRead file) = (file.now ≡ name) × (is_of_reader fault.kind ≡ true)
IsFaultOfCall name fault made = (is_of_reader fault.kind ≡ false) × IsFaultFor name (InFlows fault) made

-- the result is that of this reading: a value for what is read, or its fault
abbrev pub IsReading : {A V : Type 0} → Result A BytesFault → (A → V → Type 0) → Result V BytesFault → Type 0
IsReading {A} reading is (Ok value) = (a : A) × (reading ≡ Ok a) × is a value
IsReading reading is (Err fault) = reading ≡ Err fault

-- the outcome is a fault that the result may be
abbrev pub faults_of : {V : Type 0} → (Result V BytesFault → Type 0) → Outcome → Type 0
faults_of Is (Ok text) = ⊥
faults_of Is (Err fault) = Is (Err fault)

-- no file is touched but that of the labels, if there is one
abbrev pub AreOthersKept : {R : Type 0} → Option LabelFile → Readers R → Readers R → Type 0
AreOthersKept None old new = new ≡ old
AreOthersKept (Some (Map file)) old new = new ≡ record old { map = new.map }
AreOthersKept (Some (Prefixes file)) old new = new ≡ record old { list = new.list }

module _ {R : Type 0} (input : R → InputView) where
  -- nothing of the file is read yet, and its reader has not failed
  abbrev pub IsFresh : Option (Source R) → Type 0
  IsFresh file = ((view_of input file).returned ≡ []) × ((view_of input file).failed ≡ false)

  abbrev pub AreFresh : Readers R → Type 0
  AreFresh files = IsFresh files.map × IsFresh files.list × IsFresh files.certificate × IsFresh files.flows

  -- What reading a file returns, by what its text is read as: the value or the fault of all texts that the file may
  -- have. Or its reader failed after bytes that meet a condition, or an allocation failed. A fault has the file's name.
  abbrev pub Gives : {A V : Type 0} → (Text → Result A BytesFault) → (A → V → Type 0) → (List ℕ → Type 0)
      → Option (Source R) → Option (Source R) → Result V RunFault → Type 0
  Gives {A} reading is stops old new (Ok value) = ((view_of input new).failed ≡ false)
      × ((text : Text) → MayHave (view_of input new) text → (a : A) × (reading text ≡ Ok a) × is a value)
  Gives reading is stops old new (Err NoMemory) = (view_of input new).failed ≡ false
  Gives reading is stops old new (Err (CannotRead file)) = ((view_of input new).failed ≡ true)
      × (file.now ≡ name_in old) × stops (view_of input new).returned
  Gives reading is stops old new (Err (File file fault)) =
      ((view_of input new).failed ≡ false) × (file.now ≡ name_in old)
      × ((text : Text) → MayHave (view_of input new) text → reading text ≡ Err fault)
  Gives reading is stops old new (Err fault) = ⊥

  -- what reading a file returns, and that no byte of it is lost
  pub record IsRead {A V : Type 0} (reading : Text → Result A BytesFault) (is : A → V → Type 0)
      (stops : List ℕ → Type 0) (old new : Option (Source R)) (result : Result V RunFault) : Type 0 where
    pub reads : ReadsInput (view_of input old) (view_of input new) (λ _. ⊤)
    pub gives : Gives reading is stops old new result

  -- the name of the file, and its text
  abbrev pub IsText : {V : Type 0} → (V → Text) → Option (Source R) → Option (Source R)
      → Result (Bor Text × V) RunFault → Type 0
  IsText text_of old =
      IsRead {A = Text} Ok (λ text read. (text ≡ text_of read.1) × (read.0.now ≡ name_in old)) (λ _. ⊤) old

  -- the value that the text is read as
  abbrev pub Decodes : {F A V : Type 0} → (F → BytesFault) → (Text → Result A F) → (V → A) → Option (Source R)
      → Option (Source R) → Result V RunFault → Type 0
  Decodes wrap reading model =
      IsRead (λ text. with_bytes_fault wrap (reading text)) (λ a value. a ≡ model value) (λ _. ⊤)

  -- what is built from the messages of a File, each with its offset
  abbrev pub ReadsInto : {T : Type 0} → (List (ℕ × MessageView) → T → Type 0) → Option (Source R) → Option (Source R)
      → Result T RunFault → Type 0
  ReadsInto is_of = IsRead (λ text. with_bytes_fault InFlows (placed_messages text)) is_of
      StopsReading

  -- The input has returned these messages with their offsets, whose number the state has, and there may be more.
  -- Nothing was read before.
  pub record AreReadSoFar (start : Option (Source R)) (placed : List (ℕ × MessageView)) (p : ProgressView)
      (now : Option (Source R)) : Type 0 where
    pub read : IsReadTo no_templates 0 0 (view_of input start) placed p (view_of input now)
    pub going : p.state ≡ Going
    pub works : (view_of input now).failed ≡ false
    pub name : name_in now ≡ name_in start
    pub first : (view_of input start).returned ≡ []

  -- the result of a call for the message after these, at this offset, and the state after the call
  abbrev pub ReadsNext : Option (Source R) → List (ℕ × MessageView) → ℕ
      → Result (Option MessageView) RunFault → ProgressView → Option (Source R) → Type 0
  ReadsNext start placed at (Ok (Some m)) p now =
      AreReadSoFar start (placed ++ (at, m) ∷ []) p now × (length placed < 4294967295)
  ReadsNext start placed at (Ok None) p now = ReadsInto (λ read all. read ≡ all) start now (Ok placed)
  ReadsNext start placed at (Err fault) p now =
      ReadsInto {T = List (ℕ × MessageView)} (λ read all. read ≡ all) start now (Err fault)

  -- the files before this turn may have these texts
  abbrev pub AreTextsBefore : ℕ → Readers R → ByFile Text → Type 0
  AreTextsBefore n files texts = (role : Role) → turn role < n → MayHave (view_of input (at role files)) (at role texts)

  -- what reading the files before this turn returns, by what their texts may be read as
  abbrev pub GivesAll : {V : Type 0} → ℕ → (ByFile Text → Result V BytesFault → Type 0) → Readers R → Readers R
      → Result V RunFault → Type 0
  GivesAll n Is old new (Ok value) = (any_failed input new ≡ false)
      × ((texts : ByFile Text) → AreTextsBefore n new texts → Is texts (Ok value))
  GivesAll n Is old new (Err fault) = IsFaultOf input (λ texts. faults_of (Is texts)) old new fault

  -- what reading these files returns; no byte of them is lost, and the other files are untouched
  pub record AreRead {V : Type 0} (n : ℕ) (Is : ByFile Text → Result V BytesFault → Type 0) (old new : Readers R)
      (result : Result V RunFault) : Type 0 where
    pub read : AreReadOn input old new
    pub kept : (role : Role) → n ≤ turn role → at role new ≡ at role old
    pub early : (role : Role) → (view_of input (at role new)).failed ≡ true → turn role < n
    pub gives : GivesAll n Is old new result

  -- the map or the list that labels come from
  abbrev pub AreLabels : LabelFile → Readers R → Readers R → Result LabelsRead RunFault → Type 0
  AreLabels file = AreRead 2 (λ texts.
      IsReading (labels_reading file texts) (λ labels found. labels ≡ labelling_read found))

  -- the same, if there is such a file
  abbrev pub AreLabelsOf : Option LabelFile → Readers R → Readers R → Result (Option LabelsRead) RunFault → Type 0
  AreLabelsOf source = AreRead 2 (λ texts.
      IsReading (source_reading source texts) (λ labels found. labels ≡ option_map labelling_read found))

  -- what is built from the labels, if there are any, and the messages of a File
  abbrev pub ReadsReport : {T : Type 0} → (Option Labelling → List MessageView → T → Type 0) → Option LabelFile
      → Readers R → Readers R → Result T RunFault → Type 0
  ReadsReport has source = AreRead 4 (λ texts.
      IsReading (report_reading source texts) (λ read built. has read.0 read.1 built))

-- What is built from rows. The first value is the one before any was added.

pub record HasGroups (first : GroupsModel) (labels : Option Labelling) (rows : List RowView)
    (now : GroupsModel) : Type 0 where
  pub fields : now.fields ≡ first.fields
  pub groups : now.groups ≡ groups_of first.fields (label_where labels) rows
  pub few : record_count now.groups ≤ length rows

-- the rows of the messages that pass a filter were added
pub record HasPassing {T : Type 0} (has : T → Option Labelling → List RowView → T → Type 0) (first : Filtered T)
    (messages : List MessageView) (now : Filtered T) : Type 0 where
  pub filter : now.filter ≡ first.filter
  pub labels : now.labels ≡ first.labels
  pub rows : has first.taker (labelling_found first.labels)
      (passing_rows first.filter.now (labelling_found first.labels) messages) now.taker
  pub few : length (rows_of_messages messages) ≤ 131070 * length messages

-- a report can start with this value
abbrev pub StartsReport : {T : Type 0} → (T → Option Labelling → List RowView → T → Type 0) → Option LabelFile → T
    → Type 0
StartsReport has source first =
    (labels : Option Labelling) → is_some labels ≡ is_some source → has first labels [] first
