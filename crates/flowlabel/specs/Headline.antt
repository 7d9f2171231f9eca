use Rattle.std.specs.Prelude.{◌≡◌, ◌≢◌, ◌≤◌, ◌<◌, ◌+◌, ◌^◌, ◌⊎◌, ◌&&◌, ◌∷◌, ◌++◌, [], ℕ, All}
use Rattle.std.specs.Prelude.{Contains, IsTrue, List, Bool, Option, None, Some, Ok, filter, is_some}
use Rattle.std.specs.Prelude.{length, map, nat_le, nat_lt, option_map, slice_get, unwrap_or}
use Rattle.std.specs.Borrow.{Bor}
use Rattle.std.specs.List.{last_or}
use Rattle.prefix_keys.specs.Block.{width_of}
use Rattle.pmap_model.specs.ListModel.{IsEquivalent, ListModel, covers}
use Rattle.pmap_model.specs.Label.{is_label}
use Rattle.pmap_model.specs.MapModel.{Label as LabelOf, MapModel, spans}
use Rattle.pmap_text.specs.Reading.{label_limit, list_reading, map_reading, mapping_limit}
use Rattle.pmap_model.specs.Sorting.{in_order}
use Rattle.pmap_cert.specs.Acceptance.{HasBlock, IsInOrder, IsLeast}
use Rattle.pmap_cert.specs.CertificateModel.{CertificateModel}
use Rattle.pmap_cert.specs.Compacting.{compact, line_count}
use Rattle.pmap_cert.specs.FormatReading.{format_reading}
use Rattle.cert_check.specs.Checking.{first_fault}
use Rattle.pmap_stretches.specs.Runs.{HasOneRun, Run}
use Rattle.label_lookup.specs.Labelling.{Labelling, label_by, labelling}
use Rattle.ipfix_read.specs.Messages.{file_reading}
use Rattle.flow_rows.specs.Counts.{rows_of_messages}
use Rattle.flow_rows.specs.Elements.{RowView}
use Rattle.flow_rows.specs.Laws.{summed_counts}
use Rattle.flow_filter.specs.Condition.{passing}
use Rattle.pmap_cert.specs.ListText.{labels_of, list_text}
use Rattle.pmap_print.specs.Reports.{info_text, title_line}
use Rattle.pmap_stretches.specs.RunsText.{runs_text}
use Rattle.pmap_print.specs.Table.{table_text}
use Rattle.flow_files.specs.Groups.{PrintsGroups, row_columns}
use Rattle.flow_files.specs.Outcomes.{Outcome, Prints, Then, labels_reading, report_reading, with_bytes_fault}
use Rattle.flow_files.specs.declared.bytes_fault.BytesFault.TheVariants.{Flows as InFlows}
use Rattle.flowlabel.specs.Output.{IsOutput, labelled_row_lines, minimal_text}
use Rattle.flow_files.specs.declared.by_file.ByFile.{ByFile}
use Rattle.flowlabel.specs.Request.{Cat, Check, Command, Info, Label, Recert, Rows, Shrink, Uniq}
use Rattle.flow_files.specs.Sources.{Text}
use Rattle.flow_files.specs.declared.label_file.LabelFile.{LabelFile}
use Rattle.flow_files.specs.declared.label_file.LabelFile.TheVariants.{Map, List as Prefixes}
use Rattle.flowlabel.specs.declared.command.Shrunk.TheVariants as shrunk

-- The headline: what a command that ends without a fault has written.

-- The list labels every address as the map does, and no list that does so has fewer entries. It has the map's name. Its
-- entries have blocks of its version and well-formed labels, and are in order, so that no two have the same block.
pub record IsShortest (m : MapModel) (l : ListModel) : Type 0 where
  pub equivalent : IsEquivalent l m
  pub least : IsLeast m l
  pub name : l.name ≡ m.name
  pub entries : All (λ p. HasBlock (width_of l.version) p × IsTrue (is_label p.label)) l.prefixes
  pub order : IsInOrder l.prefixes

-- The text is that of the list. If the list is within the limits of a text, the text is read again as the list, with a
-- label table of its own. Read as a map text, it is then a map to which the list is equivalent.
pub record IsReadAgain (l : ListModel) (text : Text) : Type 0 where
  pub table : List LabelOf
  pub reads : list_reading text ≡ Ok (record l { table = table })
  pub again : MapModel
  pub reads_map : map_reading text ≡ Ok again
  pub equivalent : IsEquivalent l again

abbrev pub PrintsList : ListModel → Text → Type 0
PrintsList l text = (text ≡ list_text l)
    × (length l.prefixes ≤ mapping_limit → length (labels_of l.prefixes) ≤ label_limit
    → IsReadAgain l text)

-- A certificate that `recert` prints has no more node lines than the one that it read, `recert` prints it unchanged,
-- and it has no fault for a map and a list for which the one that was read has none.
pub record IsAsGood (command : Command) (texts : ByFile Text) (out : Text) : Type 0 where
  pub old : CertificateModel
  pub reads_old : format_reading texts.certificate ≡ Ok old
  pub reads_new : format_reading out ≡ Ok (compact old)
  pub lines : line_count (compact old).root ≤ line_count old.root
  pub again : IsOutput command (record texts { certificate = out }) (Ok out)
  pub checks : (m : MapModel) (l : ListModel)
      → first_fault m l old ≡ None → first_fault m l (compact old) ≡ None

-- The labels of addresses in the text of a map or a list. Under a map, the label of an address is that of the last
-- statement that covers it, or the default if none does. Under a list, it is that of the first of the entries that
-- cover it, with the longest blocks first.
abbrev pub GivesLabels : LabelFile → ByFile Text → Labelling → Type 0
GivesLabels (Map file) texts labels = (m : MapModel) × (map_reading texts.map ≡ Ok m)
    × (labels ≡ labelling m.version (λ a.
    last_or (Some m.fallback) (map (λ p. p.label) (filter (spans a) m.mappings))))
GivesLabels (Prefixes file) texts labels = (l : ListModel) × (list_reading texts.list ≡ Ok l)
    × (let W = width_of l.version in labels ≡ labelling l.version (λ a. option_map (λ p. p.label)
    (slice_get (in_order (λ p q. nat_lt q.bits p.bits)
    (filter (λ p. nat_le p.bits W && covers W p.bits a p) l.prefixes)) 0)))

-- The outcome is a table of a header and a line for each row, in order. The header has the titles of each row's
-- columns, and the row's line has the fields.
abbrev pub PrintsRows : Bool → Option Labelling → List RowView → Outcome → Type 0
PrintsRows columns labels shown outcome =
    All (λ row. map (λ c. c.0) (row_columns labels row) ≡ title_line (is_some labels)) shown
    × Prints (table_text columns (labelled_row_lines labels shown)) outcome

-- The outcome is the text of runs. Exactly one run has each address. If a run begins right after another one, their
-- labels differ. No run is empty.
abbrev pub PrintsEachOnce : Labelling → Outcome → Type 0
PrintsEachOnce labels outcome = (runs : List Run)
    × ((a : ℕ) → a < 2 ^ width_of labels.version → HasOneRun labels.label runs a)
    × ((r s : Run) → Contains runs r → Contains runs s
    → (r.low ≤ r.high) × (s.low ≡ r.high + 1 → s.label ≢ r.label))
    × Prints (runs_text labels.version runs) outcome

-- What `shrink` prints for a map text, each way, is one list and its certificate. The certificate, compacted or not,
-- has no fault for the map and the list. If the list is within the limits of a text, `check` over the map's text, the
-- list's text and the certificate's text prints the number of the list's entries. The files have any name.
pub record AreShrunk (name : Bor Text) (texts : ByFile Text)
    (m : MapModel) (l : ListModel) (c : CertificateModel) : Type 0 where
  pub shortest : IsShortest m l
  pub accepted : first_fault m l c ≡ None
  pub compact_accepted : first_fault m l (compact c) ≡ None
  pub prints_list : (out : Text) × IsOutput (Shrink name shrunk.List) texts (Ok out)
      × PrintsList l out
  pub prints : (out : Text) × IsOutput (Shrink name shrunk.Certificate) texts (Ok out)
      × (format_reading out ≡ Ok c)
  pub prints_compact : (out : Text) × IsOutput (Shrink name shrunk.Compact) texts (Ok out)
      × (format_reading out ≡ Ok (compact c))
  pub checks : length l.prefixes ≤ mapping_limit → length (labels_of l.prefixes) ≤ label_limit
      → (text : Text) → (format_reading text ≡ Ok c) ⊎ (format_reading text ≡ Ok (compact c))
      → IsOutput (Check name name name) (record texts { list = list_text l; certificate = text })
      (Ok (minimal_text (length l.prefixes)))

-- The headline for the text that a command writes for the texts of its files. `label`: it is the line of the address's
-- label. `info`: the numbers are the sums of those of each message. `rows`: it is a table of the rows that meet
-- each option. `uniq`: it is a table of the groups of these rows. `cat`: exactly one run has each address. `shrink`:
-- it is read as a shortest list for the map, or as a certificate for this list. `check`: it is the number of entries of
-- the list, which is equivalent and least. `recert`: it is a certificate as good as the one read.
abbrev pub IsHeadline : Command → ByFile Text → Text → Type 0
IsHeadline (Label labels addr) texts out = (given : Labelling) × GivesLabels labels texts given
    × (out ≡ unwrap_or (label_by given (addr.version, addr.value)) [] ++ 10 ∷ [])
IsHeadline (Info flows) texts out =
    Then (λ messages. Prints (info_text (summed_counts messages)))
    (with_bytes_fault InFlows (file_reading texts.flows)) (Ok out)
IsHeadline (Rows labels options columns flows) texts out =
    Then (λ read. PrintsRows columns read.0 (passing options read.0 (rows_of_messages read.1)))
    (report_reading labels texts) (Ok out)
IsHeadline (Uniq fields labels options sorted columns flows) texts out =
    Then (λ read. PrintsGroups fields sorted columns read.0
    (passing options read.0 (rows_of_messages read.1))) (report_reading labels texts) (Ok out)
IsHeadline (Cat labels) texts out = Then PrintsEachOnce (labels_reading labels texts) (Ok out)
IsHeadline (Shrink map shrunk.List) texts out = (m : MapModel) × (l : ListModel)
    × (map_reading texts.map ≡ Ok m) × IsShortest m l × PrintsList l out
IsHeadline (Shrink map shrunk.Certificate) texts out =
    (m : MapModel) × (l : ListModel) × (c : CertificateModel) × (map_reading texts.map ≡ Ok m)
    × AreShrunk map texts m l c × (format_reading out ≡ Ok c)
IsHeadline (Shrink map shrunk.Compact) texts out =
    (m : MapModel) × (l : ListModel) × (c : CertificateModel) × (map_reading texts.map ≡ Ok m)
    × AreShrunk map texts m l c × (format_reading out ≡ Ok (compact c))
IsHeadline (Check map list certificate) texts out = (m : MapModel) × (l : ListModel)
    × (map_reading texts.map ≡ Ok m) × (list_reading texts.list ≡ Ok l) × IsEquivalent l m
    × IsLeast m l × (out ≡ minimal_text (length l.prefixes))
IsHeadline (Recert certificate) texts out = IsAsGood (Recert certificate) texts out
