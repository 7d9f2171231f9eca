-- How a command ends, by what was read of its files.
use Rattle.std.proofs.Common.{◌≡◌, ◌∙◌, ◌∷◌, Bool, List, Option, Result, Ok, Err, ap, false, inl, inr, refl, subst, sym, true}
use Rattle.std.specs.Prelude.{option_map}
use Rattle.flow_io.specs.Devices.{InputView, OutputView, StopsWriting, WritesWhole}
use Rattle.flow_uniq.specs.Groups.{groups_of, shown_groups}
use Rattle.flow_uniq.specs.declared.field.KeyField.{KeyField}
use Rattle.flow_filter.specs.Condition.{Condition}
use Rattle.label_lookup.specs.Labelling.{Labelling, label_where}
use Rattle.pmap_print.specs.Messages.{message_titles, messages_text, lines_text}
use Rattle.pmap_print.specs.Reports.{groups_text}
use Rattle.pmap_print.specs.Table.{Line, table_text}
use Rattle.flow_files.specs.declared.by_file.ByFile.{ByFile}
use Rattle.flow_files.specs.declared.fault.RunFault.{RunFault}
use Rattle.flow_files.specs.declared.fault.RunFault.TheVariants.{CannotOpen, CannotRead, CannotWrite, File, NoMemory, Usage}
use Rattle.flow_files.specs.declared.label_file.LabelFile.{LabelFile}
use Rattle.flow_files.specs.declared.labels.LabelsRead.{LabelsRead}
use Rattle.flow_files.specs.Opening.{AreOpened}
use Rattle.flow_files.specs.Groups.{uniq_text}
use Rattle.flow_files.specs.Outcomes.{source_reading}
use Rattle.flow_files.specs.Readers.{AreTexts, AreUnread, Readers, any_failed}
use Rattle.flow_files.specs.Reports.{AreLabelsOf, IsTextWritten, labelling_found, labelling_read, passing_rows}
use Rattle.flow_files.specs.Sources.{Text}
use Rattle.flow_files.proofs.GroupLemmas.{groups-table}
use Rattle.flow_many.specs.Answer.{Answers}
use Rattle.flow_many.specs.Ending.{IsEndOf}
use Rattle.flow_many.specs.Files.{Placed}
use Rattle.flow_many.specs.Headline.{IsHeadline}
use Rattle.flow_many.specs.Output.{all_messages, outcome_of, refusal_of, labels_from}
use Rattle.flow_many.specs.Reading.{HasListedFiles, HasSummedFiles}
use Rattle.flow_many.specs.Request.{Command, files_of, labels_named, request_of}
use Rattle.flow_many.specs.Run.{EndsAs, HaveTexts, IsFaultOfFiles, WereRead}
use Rattle.flow_many.specs.declared.listing.Listing.{Listing}
use Rattle.flow_many.specs.declared.summing.Sums.{Sums}

-- the labelling that was read is that of each text that the map or the list may have
pub labels_found : {R : Type 0} {input : R → InputView} (source : Option LabelFile) {old new : Readers R} (found : Option LabelsRead)
    → AreLabelsOf input source old new (Ok found) → (labels_text : ByFile Text) → AreTexts input new labels_text
    → source_reading source labels_text ≡ Ok (option_map labelling_read found)
labels_found source found had labels_text are = let (labels, reads, is) = had.gives.1 labels_text (λ role _. are role) in reads ∙ ap Ok is

-- the text of the groups of sums is what `uniq` prints
pub sums_text : (first now : Sums) (files : List (List Placed)) (keys : List KeyField) (condition : Condition) (columns : Bool) (labels : Option Labelling)
    → HasSummedFiles first files now → first.rows.groups.fields ≡ keys → first.filter.now ≡ condition → labelling_found first.labels ≡ labels
    → uniq_text keys true columns labels (passing_rows condition labels (all_messages files))
    ≡ groups_text now.rows.groups.fields (shown_groups true now.rows.groups.groups) columns
sums_text first now files keys condition columns labels has keys_are condition_is labels_are =
    let groups = has.rows.groups has.early in
    let by : (fields : List KeyField) (c : Condition) (l : Option Labelling) → List _ = λ fields c l. groups_text fields (shown_groups true (groups_of fields (label_where l) (passing_rows c l (all_messages files)))) columns in
    sym ((λ i. groups_text (groups.fields i) (shown_groups true (groups.groups i)) columns)
    ∙ (λ i. by (keys_are i) (condition_is i) (labels_are i))
    ∙ groups-table keys true columns labels (passing_rows condition labels (all_messages files)))

-- the text of the lines of messages
pub listed_text : (first now : Listing) (files : List (List Placed)) → HasListedFiles first files now → messages_text files ≡ lines_text now.lines.items
listed_text first now files has = ap (λ (lines : List Line). table_text false (message_titles ∷ lines)) (sym has.lines)

module _ {R W : Type 0} (answers : Text → Option R → Type 0) (input : R → InputView) (output : W → OutputView) where
  -- the output is written as the command promises
  pub ends_written : (command : Command) (old new : Readers R) (writer writer' : W) (readers : List (R × R)) (made : Text)
      → WereRead answers input (files_of (request_of command)) readers → any_failed input new ≡ false
      → ((labels_text : ByFile Text) (texts : List Text) → AreTexts input new labels_text → HaveTexts answers input readers texts
      → outcome_of command labels_text texts ≡ Ok made)
      → ((command : Command) (labels_text : ByFile Text) (texts : List Text) (out : Text) → outcome_of command labels_text texts ≡ Ok out
      → IsHeadline command labels_text texts out)
      → {Is : Text → Type 0} → ((text : Text) → Is text → text ≡ made) → (result : Result (Unit {0}) RunFault)
      → IsTextWritten output Is writer writer' result → EndsAs answers input output command old new writer writer' result
  ends_written command old new writer writer' readers made were works outcome headline is (Ok done) (text, its, wrote) = (
    readers,
    were,
    works,
    made,
    λ labels_text texts are have. let same = outcome labels_text texts are have in (same, headline command labels_text texts made same),
    subst (WritesWhole (output writer) (output writer')) (is text its) wrote,
  )
  ends_written command old new writer writer' readers made were works outcome headline is (Err CannotWrite) (text, its, stops) =
      (readers, were, works, made, outcome, subst (StopsWriting (output writer) (output writer')) (is text its) stops)
  ends_written command old new writer writer' readers made were works outcome headline is (Err NoMemory) same = (same, inl works)
  ends_written command old new writer writer' readers made were works outcome headline is (Err (CannotOpen file)) written = absurd written
  ends_written command old new writer writer' readers made were works outcome headline is (Err (CannotRead file)) written = absurd written
  ends_written command old new writer writer' readers made were works outcome headline is (Err (File file fault)) written = absurd written
  ends_written command old new writer writer' readers made were works outcome headline is (Err (Usage fault)) written = absurd written

  -- the command ends with the fault of its Files
  pub ends_faulty : (command : Command) (old new : Readers R) (writer : W) → any_failed input new ≡ false → (labels : Option Labelling)
      → ((labels_text : ByFile Text) → AreTexts input new labels_text → source_reading (labels_from command) labels_text ≡ Ok labels)
      → (fault : RunFault) → IsFaultOfFiles answers input (refusal_of command labels) (files_of (request_of command)) fault
      → EndsAs answers input output command old new writer writer (Err fault)
  ends_faulty command old new writer works labels found NoMemory is = (refl, inr (works, labels, found, is))
  ends_faulty command old new writer works labels found (CannotOpen file) is = (refl, inr (works, labels, found, is))
  ends_faulty command old new writer works labels found (CannotRead file) is = (refl, inr (works, labels, found, is))
  ends_faulty command old new writer works labels found (File file fault) is = (refl, inr (works, labels, found, is))
  ends_faulty command old new writer works labels found CannotWrite is = absurd is
  ends_faulty command old new writer works labels found (Usage fault) is = absurd is

  -- the end of a command is that of its words
  pub end_is : (words : List Text) (command : Command) (files files' : Readers R) (writer writer' : W) (result : Result (Unit {0}) RunFault)
      → Answers words (Ok (request_of command)) → AreOpened answers (labels_named (request_of command)) files → AreUnread input files
      → EndsAs answers input output command files files' writer writer' result → IsEndOf answers input output words writer writer' result
  end_is words command files files' writer writer' (Ok done) asked opened unread ends = (command, asked, inr (files, opened, unread, files', ends))
  end_is words command files files' writer writer' (Err NoMemory) asked opened unread ends = (command, asked, inr (files, opened, unread, files', ends))
  end_is words command files files' writer writer' (Err CannotWrite) asked opened unread ends = (command, asked, inr (files, opened, unread, files', ends))
  end_is words command files files' writer writer' (Err (CannotOpen file)) asked opened unread ends = (command, asked, inr (files, opened, unread, files', ends))
  end_is words command files files' writer writer' (Err (CannotRead file)) asked opened unread ends = (command, asked, inr (files, opened, unread, files', ends))
  end_is words command files files' writer writer' (Err (File file fault)) asked opened unread ends = (command, asked, inr (files, opened, unread, files', ends))
  end_is words command files files' writer writer' (Err (Usage fault)) asked opened unread (same, inl is) = absurd is
  end_is words command files files' writer writer' (Err (Usage fault)) asked opened unread (same, inr is) = absurd is.3
