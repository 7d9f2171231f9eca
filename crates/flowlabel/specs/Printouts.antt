use Rattle.std.specs.Prelude.{◌≡◌, ⊤, List, ℕ, Option, is_some, Result, Ok, Err, length}
use Rattle.flow_io.specs.Devices.{InputView}
use Rattle.pmap_model.specs.PrefixList.{list_of}
use Rattle.pmap_model.specs.ListModel.{ListModel}
use Rattle.pmap_model.specs.MapModel.{MapModel}
use Rattle.label_lookup.specs.Labelling.{Labelling, label_by}
use Rattle.ipfix_read.specs.Message.{MessageView}
use Rattle.flow_rows.specs.Counts.{counts_of, count_list}
use Rattle.flow_rows.specs.Elements.{RowView}
use Rattle.flow_uniq.specs.Groups.{shown_groups}
use Rattle.pmap_print.specs.Reports.{LabelTexts, column_count, groups_text}
use Rattle.pmap_print.specs.Table.{IsTable, Line, has_columns, table_text}
use Rattle.pmap_stretches.specs.RunsText.{IsRunsText}
use Rattle.pmap_stretches.specs.Stretches.{AreLabelsBelow, text_held}
use Rattle.pmap_stretches.specs.declared.runs.Runs.{Runs}
use Rattle.pmap_cert.specs.Acceptance.{IsMinimalPair}
use Rattle.pmap_cert.specs.CertificateModel.{CertificateModel}
use Rattle.pmap_cert.specs.Certificate.{IsOpening, certificate_of}
use Rattle.pmap_cert.specs.CertificateText.{certificate_text}
use Rattle.pmap_cert.specs.Compacting.{compact}
use Rattle.pmap_cert.specs.ListText.{list_text}
use Rattle.flow_files.specs.declared.by_file.ByFile.{ByFile}
use Rattle.flow_files.specs.declared.bytes_fault.BytesFault.{BytesFault}
use Rattle.flow_files.specs.Outcomes.{Outcome}
use Rattle.flowlabel.specs.Output.{labelled_row_lines, shrunk_text}
use Rattle.flowlabel.specs.Request.{Shrunk}
use Rattle.flow_files.specs.Sources.{Text}
use Rattle.flow_files.specs.Readers.{Readers}
use Rattle.flow_files.specs.declared.fault.RunFault.{RunFault}
use Rattle.flow_files.specs.declared.labels.LabelsRead.{LabelsRead}
use Rattle.flowlabel.specs.declared.commands.printout.Printout.{Printout}
use Rattle.flowlabel.specs.declared.commands.printout.Printout.TheVariants as printout
use Rattle.flowlabel.specs.declared.commands.info.Counted.{Counted}
use Rattle.flowlabel.specs.declared.commands.rows.Lines.{Lines}
use Rattle.flow_files.specs.Reports.{labelling_read, table_read, AreRead}

-- Printouts, and what the parts of commands build them from.

-- the printout can be printed
abbrev pub IsWhole : Printout → Type 0
IsWhole (printout.Table table) = (count : ℕ) × (lines : List Line) × IsTable count lines table
IsWhole (printout.Runs runs labels) = AreLabelsBelow (length (table_read labels)) runs.stretches
IsWhole (printout.Opened certificate) = (c : CertificateModel) × IsOpening certificate c
IsWhole _ = ⊤

-- this is its text
abbrev pub IsTextOf : Printout → Text → Type 0
IsTextOf (printout.Text bytes) text = text ≡ bytes.items
IsTextOf (printout.Table table) text =
    (count : ℕ) (lines : List Line) → IsTable count lines table → text ≡ table_text (has_columns table) lines
IsTextOf (printout.Groups groups sorted columns) text =
    text ≡ groups_text groups.fields (shown_groups sorted groups.groups) columns
IsTextOf (printout.Runs runs labels) text =
    IsRunsText runs.stretches.version (text_held (table_read labels) runs.stretches) text
IsTextOf (printout.List list) text = text ≡ list_text (list_of list)
IsTextOf (printout.Certificate certificate) text = text ≡ certificate_text (certificate_of certificate)
IsTextOf (printout.Compact certificate) text = text ≡ certificate_text (compact (certificate_of certificate))
IsTextOf (printout.Opened certificate) text =
    (c : CertificateModel) → IsOpening certificate c → text ≡ certificate_text c

-- these runs are printed as those of the labels
abbrev pub AreRunsFor : LabelsRead → Runs → Type 0
AreRunsFor labels runs = AreLabelsBelow (length (table_read labels)) runs.stretches
    × ((text : Text) → IsRunsText runs.stretches.version (text_held (table_read labels) runs.stretches) text
    → IsRunsText (labelling_read labels).version (labelling_read labels).label text)

-- the printout of `shrink` for a map
abbrev pub IsShrunk : Shrunk → MapModel → Printout → Type 0
IsShrunk printed m printout = IsWhole printout
    × ((text : Text) → IsTextOf printout text
    → (l : ListModel) × (c : CertificateModel) × IsMinimalPair m l c × (text ≡ shrunk_text printed l c))

-- the result of a command with this outcome: its printout, or its fault
abbrev pub HasOutcome : (Outcome → Type 0) → Result Printout BytesFault → Type 0
HasOutcome Is (Ok printout) = IsWhole printout × ((text : Text) → IsTextOf printout text → Is (Ok text))
HasOutcome Is (Err fault) = Is (Err fault)

-- the printout of a command with these outcomes, or its fault
abbrev pub IsPrintout : {R : Type 0} → (R → InputView) → (ByFile Text → Outcome → Type 0) → Readers R → Readers R
    → Result Printout RunFault → Type 0
IsPrintout input Is = AreRead input 4 (λ texts. HasOutcome (Is texts))

-- the labels of a row's source and destination
abbrev pub row_labels : Labelling → RowView → LabelTexts
row_labels l row = (label_by l (row.version, row.src), label_by l (row.version, row.dst))

-- What is built from messages and from rows. The first value is the one before any was added.

abbrev pub HasCounts : List MessageView → Counted → Type 0
HasCounts messages now = count_list now.counts ≡ counts_of messages

pub record HasRows (first : Lines) (labels : Option Labelling) (rows : List RowView) (now : Lines) : Type 0 where
  pub padded : has_columns now.table ≡ has_columns first.table
  pub lines : IsTable (column_count (is_some labels)) (labelled_row_lines labels rows) now.table
