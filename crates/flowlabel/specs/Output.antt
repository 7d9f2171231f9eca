use Rattle.std.specs.Prelude.{ℕ, List, [], ◌∷◌, ◌++◌, Option, Result, Ok, Err}
use Rattle.std.specs.Prelude.{is_some, map, unwrap_or, codes, decimal, length}
use Rattle.std.specs.Option.{option_map_or}
use Rattle.prefix_keys.specs.Text.{AddressOf}
use Rattle.pmap_model.specs.ListModel.{ListModel}
use Rattle.pmap_model.specs.MapModel.{MapModel}
use Rattle.pmap_model.specs.Steps.{◌>>=◌}
use Rattle.pmap_text.specs.Reading.{list_reading, map_reading}
use Rattle.pmap_cert.specs.Acceptance.{IsMinimalPair}
use Rattle.pmap_cert.specs.CertificateText.{certificate_text}
use Rattle.pmap_cert.specs.CertificateModel.{CertificateModel}
use Rattle.pmap_cert.specs.Compacting.{compact}
use Rattle.pmap_cert.specs.FormatReading.{format_reading}
use Rattle.cert_check.specs.Checking.{first_fault}
use Rattle.ipfix_read.specs.Messages.{file_reading}
use Rattle.flow_rows.specs.Counts.{counts_of, rows_of_messages}
use Rattle.flow_rows.specs.Elements.{RowView}
use Rattle.flow_filter.specs.Condition.{passing}
use Rattle.pmap_print.specs.Reports.{info_text, title_line}
use Rattle.pmap_cert.specs.ListText.{list_text}
use Rattle.pmap_stretches.specs.RunsText.{IsRunsText}
use Rattle.pmap_print.specs.Table.{Line, table_text}
use Rattle.label_lookup.specs.Labelling.{Labelling, label_by}
pub use Rattle.flow_files.specs.declared.bytes_fault.BytesFault.{BytesFault}
use Rattle.flow_files.specs.declared.bytes_fault.BytesFault.TheVariants.{Map as InMap, List as InList}
use Rattle.flow_files.specs.declared.bytes_fault.BytesFault.TheVariants.{Certificate as InCertificate}
use Rattle.flow_files.specs.declared.bytes_fault.BytesFault.TheVariants.{Check as InCheck, Flows as InFlows}
use Rattle.flow_files.specs.declared.by_file.ByFile.{ByFile}
use Rattle.flowlabel.specs.Request.{Cat, Check, Command, Info, Label, Recert, Rows, Shrink, Shrunk, Uniq}
use Rattle.flow_files.specs.Sources.{Text}
use Rattle.flowlabel.specs.declared.command.Shrunk.TheVariants as shrunk
use Rattle.flow_files.specs.Groups.{row_columns, uniq_text}
use Rattle.flow_files.specs.Outcomes.{Outcome, Prints, Then, labels_reading, report_reading, with_bytes_fault}

-- The output of a command for the texts of its files: the text that it prints, or the first fault of these texts.

-- the line of the label that a labelling gives an address, which is the line feed alone if there is no label
abbrev pub label_text : AddressOf → Labelling → List ℕ
label_text address labels = unwrap_or (label_by labels address) [] ++ 10 ∷ []

-- what `shrink` prints: the list, its certificate, or its certificate compacted
abbrev pub shrunk_text : Shrunk → ListModel → CertificateModel → List ℕ
shrunk_text shrunk.List l c = list_text l
shrunk_text shrunk.Certificate l c = certificate_text c
shrunk_text shrunk.Compact l c = certificate_text (compact c)

-- the lines of rows: a header, and the fields of each row's columns
abbrev pub labelled_row_lines : Option Labelling → List RowView → List Line
labelled_row_lines labels shown =
    title_line (is_some labels) ∷ map (λ row. map (λ c. c.1) (row_columns labels row)) shown

-- `minimal N`, the number of a shortest list's entries
abbrev pub minimal_text : ℕ → List ℕ
minimal_text count = codes "minimal " ++ decimal count ++ codes "\n"

-- what the text of a certificate is read as for a map and a list: the list, if the certificate has no fault for them,
-- otherwise the first fault
abbrev pub check_reading : MapModel → ListModel → Text → Result ListModel BytesFault
check_reading m l text = with_bytes_fault InCertificate (format_reading text) >>= (λ c.
    option_map_or (λ fault. Err (InCheck fault)) (first_fault m l c) (Ok l))

-- the outcome is an output of the command for these texts, read in the order map, list, certificate, flows
abbrev pub IsOutput : Command → ByFile Text → Outcome → Type 0
IsOutput (Label labels addr) texts =
    Then (λ l. Prints (label_text (addr.version, addr.value) l)) (labels_reading labels texts)
IsOutput (Info flows) texts = Then (λ messages. Prints (info_text (counts_of messages)))
    (with_bytes_fault InFlows (file_reading texts.flows))
IsOutput (Rows labels condition columns flows) texts = Then (λ read. Prints (table_text columns
    (labelled_row_lines read.0 (passing condition read.0 (rows_of_messages read.1)))))
    (report_reading labels texts)
IsOutput (Uniq fields labels condition sorted columns flows) texts =
    Then (λ read. Prints (uniq_text fields sorted columns read.0
    (passing condition read.0 (rows_of_messages read.1)))) (report_reading labels texts)
IsOutput (Cat labels) texts = Then (λ l outcome.
    (text : Text) × IsRunsText l.version l.label text × Prints text outcome)
    (labels_reading labels texts)
IsOutput (Shrink map printed) texts = Then (λ m outcome. (l : ListModel) × (c : CertificateModel)
    × IsMinimalPair m l c × Prints (shrunk_text printed l c) outcome)
    (with_bytes_fault InMap (map_reading texts.map))
IsOutput (Check map list certificate) texts = Then (λ l. Prints (minimal_text (length l.prefixes)))
    (with_bytes_fault InMap (map_reading texts.map) >>= (λ m.
    with_bytes_fault InList (list_reading texts.list) >>= (λ l.
    check_reading m l texts.certificate)))
IsOutput (Recert certificate) texts = Then (λ c. Prints (certificate_text (compact c)))
    (with_bytes_fault InCertificate (format_reading texts.certificate))
