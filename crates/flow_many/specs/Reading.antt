use Rattle.std.specs.Prelude.{◌≡◌, ◌≤◌, ◌+◌, ◌*◌, ◌++◌, ◌∷◌, ◌&&◌, ℕ, false, true, List, []}
use Rattle.std.specs.Prelude.{Option, None, Result, Ok, Err, decimal, length, map, option_map}
use Rattle.std.specs.List.{flat_map, list_any}
use Rattle.flow_io.specs.Devices.{InputView}
use Rattle.ipfix_read.specs.Messages.{StopsReading}
use Rattle.flow_filter.specs.Condition.{passing}
use Rattle.flow_rows.specs.Counts.{rows_of_messages}
use Rattle.flow_rows.specs.Elements.{RowView}
use Rattle.label_lookup.specs.Labelling.{Labelling}
use Rattle.pmap_print.specs.Table.{Line}
use Rattle.pmap_print.specs.Messages.{file_lines, lines_from, numbers_of}
use Rattle.pmap_print.specs.declared.messages.MessageLine.{MessageLine}
use Rattle.flow_files.specs.declared.bytes_fault.BytesFault.TheVariants.{Sum as InSum}
use Rattle.flow_files.specs.Reports.{HasGroups, labelling_found}
use Rattle.flow_files.specs.Sources.{Text}
use Rattle.flow_files.specs.Readers.{MayHave}
use Rattle.flow_files.specs.declared.fault.RunFault.{RunFault}
use Rattle.flow_files.specs.declared.fault.RunFault.TheVariants.{CannotOpen, CannotRead, File, NoMemory}
use Rattle.flow_many.specs.Files.{Placed, Refusal, files_reading, first_refusal, one_reading}
use Rattle.flow_many.specs.Output.{all_messages, is_late, message_limit, refusal_by}
use Rattle.flow_many.specs.Run.{HaveTexts, IsFaultOfFiles, WasRead, WereRead}
use Rattle.flow_many.specs.declared.listing.Listing.{Listing}
use Rattle.flow_many.specs.declared.summing.Sums.{Sums}
use Rattle.flow_many.specs.declared.summing.TimedGroups.{TimedGroups}

-- How Files are read, and what is built from their messages: only contracts of parts and proofs use these.

-- the number of messages of Files
abbrev pub count_in : List (List Placed) → ℕ
count_in files = length (flat_map (λ file. file) files)

module _ {R : Type 0} (answers : Text → Option R → Type 0) (input : R → InputView) where
  -- What opening and reading one File returns, after others. The functions say what is refused, and what Files and what
  -- messages a value has.
  abbrev pub EndsFile : {T : Type 0} → (T → Refusal) → (T → List (List Placed) → T → Type 0) → (T → List Placed
      → T → Type 0)
      → Text → T → T → Result (Unit {0}) RunFault → Type 0
  EndsFile {T} refusal has_files has_messages name old new (Ok done) = (opened last : R)
      × WasRead answers input name opened last × ((input last).failed ≡ false)
      × ((first : T) (files : List (List Placed)) → has_files first files old → (text : Text)
      → MayHave (input last) text
      → (messages : List Placed) × (one_reading (refusal first) (count_in files) text ≡ Ok messages)
      × has_files first (files ++ messages ∷ []) new × has_messages new [] new)
  EndsFile refusal has_files has_messages name old new (Err NoMemory) = Unit {0}
  EndsFile refusal has_files has_messages name old new (Err (CannotOpen file)) = (file.now ≡ name) × answers name None
  EndsFile refusal has_files has_messages name old new (Err (CannotRead file)) = (file.now ≡ name) × (opened last : R)
      × WasRead answers input name opened last × ((input last).failed ≡ true)
      × StopsReading (input last).returned
  EndsFile {T} refusal has_files has_messages name old new (Err (File file fault)) = (file.now ≡ name)
      × (opened last : R)
      × WasRead answers input name opened last × ((input last).failed ≡ false)
      × ((first : T) (files : List (List Placed)) → has_files first files old → (text : Text)
      → MayHave (input last) text
      → one_reading (refusal first) (count_in files) text ≡ Err fault)
  EndsFile refusal has_files has_messages name old new (Err fault) = ⊥

  -- what opening and reading all Files returns
  abbrev pub EndsFiles : Refusal → (List (List Placed) → Type 0) → List Text → Result (Unit {0}) RunFault → Type 0
  EndsFiles refusal has names (Ok done) = (readers : List (R × R)) × WereRead answers input names readers
      × ((texts : List Text) → HaveTexts answers input readers texts
      → (files : List (List Placed)) × (files_reading refusal texts ≡ Ok files) × has files)
  EndsFiles refusal has names (Err fault) = IsFaultOfFiles answers input refusal names fault

-- The groups of rows. Nothing is said of them after a row that starts too late.
pub record HasTimed (first : TimedGroups) (labels : Option Labelling) (rows : List RowView)
    (now : TimedGroups) : Type 0 where
  pub timed : now.timed ≡ first.timed
  pub late : now.late ≡ (first.timed && list_any is_late rows)
  pub groups : now.late ≡ false → HasGroups first.groups labels rows now.groups

-- what a sum refuses
abbrev pub refusal_of_sums : Sums → Refusal
refusal_of_sums sums = refusal_by sums.rows.timed sums.filter.now sums.allow_skipped (labelling_found sums.labels)

-- the rows of messages
abbrev pub placed_rows : List Placed → List RowView
placed_rows messages = rows_of_messages (map (λ m. m.1) messages)

-- the groups have the rows of these that pass the filter
abbrev pub HasPassed : Sums → TimedGroups → List RowView → TimedGroups → Type 0
HasPassed sums first rows now =
    HasTimed first (labelling_found sums.labels) (passing sums.filter.now (labelling_found sums.labels) rows) now

-- nothing but the rows, the number of messages and the fault has changed
pub record IsSameSum (first now : Sums) : Type 0 where
  pub filter : now.filter ≡ first.filter
  pub labels : now.labels ≡ first.labels
  pub allowed : now.allow_skipped ≡ first.allow_skipped
  pub timed : now.rows.timed ≡ first.rows.timed

-- the messages of a File were added to sums, up to the first one that is refused
pub record HasSummed (start : Sums) (messages : List Placed) (now : Sums) : Type 0 where
  pub same : IsSameSum start now
  pub fault : option_map (λ fault. InSum fault) now.fault ≡ first_refusal
      (refusal_of_sums start) start.messages messages
  pub count : now.fault ≡ None → now.messages ≡ start.messages + length messages
  pub limit : now.messages ≤ message_limit
  pub some : (first : TimedGroups) × (rows : List RowView) × HasPassed start first rows start.rows
      × (length rows ≤ 131070 * start.messages)
  pub early : now.fault ≡ None → now.rows.late ≡ false
  pub more : now.fault ≡ None → (first : TimedGroups) (rows : List RowView) → HasPassed start first rows start.rows
      → HasPassed start first (rows ++ placed_rows messages) now.rows
  pub few : now.fault ≡ None → length (placed_rows messages) ≤ 131070 * length messages

-- the messages of Files were added to sums
pub record HasSummedFiles (first : Sums) (files : List (List Placed)) (now : Sums) : Type 0 where
  pub same : IsSameSum first now
  pub fault : now.fault ≡ None
  pub early : now.rows.late ≡ false
  pub count : now.messages ≡ count_in files
  pub limit : now.messages ≤ message_limit
  pub rows : HasPassed first first.rows (rows_of_messages (all_messages files)) now.rows
  pub few : length (rows_of_messages (all_messages files)) ≤ 131070 * count_in files

-- the fields of lines
abbrev pub fields_of : List MessageLine → List Line
fields_of lines = map (λ line. map decimal (numbers_of line)) lines

-- the lines of messages of a File, and of Files, were added
pub record HasListed (start : Listing) (messages : List Placed) (now : Listing) : Type 0 where
  pub file : now.file ≡ start.file
  pub count : now.messages ≡ length messages
  pub lines : fields_of now.lines.items ≡ fields_of start.lines.items ++ file_lines start.file 1 messages

pub record HasListedFiles (first : Listing) (files : List (List Placed)) (now : Listing) : Type 0 where
  pub file : now.file ≡ 1 + length files
  pub count : now.messages ≡ 0
  pub lines : fields_of now.lines.items ≡ lines_from 1 files

abbrev pub refuses_none : Listing → Refusal
refuses_none listing before message = None
