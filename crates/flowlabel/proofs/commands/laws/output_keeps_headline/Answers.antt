use Rattle.std.proofs.Common.{◌≡◌, ◌∙◌, ◌^◌, ℕ, List, Option, None, Some, Result, Ok, Err, ap, map, refl, subst, sym}
use Rattle.std.specs.Prelude.{is_some, length, slice_index_or}
use Rattle.std.specs.Option.{option_map_or}
use Rattle.pmap_model.specs.ListModel.{ListModel}
use Rattle.pmap_model.specs.Steps.{◌>>=◌}
use Rattle.pmap_text.specs.Reading.{list_reading, map_reading}
use Rattle.prefix_keys.specs.Block.{width_of}
use Rattle.pmap_cert.specs.FormatReading.{format_reading}
use Rattle.pmap_cert.specs.CertificateText.{certificate_text}
use Rattle.pmap_cert.specs.Compacting.{compact}
use Rattle.cert_check.specs.Checking.{first_fault}
use Rattle.cert_check.specs.declared.fault.CheckFault.{CheckFault}
use Rattle.label_lookup.specs.Labelling.{Labelling, labelling_of_list, labelling_of_map}
use Rattle.flowlabel.proofs.CoveringLabels.{labelling-of_list, labelling-of_map}
use Rattle.flowlabel.proofs.RunLemmas.{apart-runs}
use Rattle.flow_rows.specs.Counts.{rows_of_messages}
use Rattle.flow_rows.specs.Elements.{RowView}
use Rattle.flow_filter.specs.Condition.{passing}
use Rattle.pmap_print.specs.Reports.{info_text, title_line}
use Rattle.flowlabel.specs.Headline.{GivesLabels, PrintsList}
use Rattle.flow_files.specs.declared.bytes_fault.BytesFault.{BytesFault}
use Rattle.flow_files.specs.declared.bytes_fault.BytesFault.TheVariants.{Map as InMap, List as InList, Certificate as InCertificate, Check as InCheck}
use Rattle.flow_files.specs.Groups.{PrintsGroups, row_columns}
use Rattle.flow_files.specs.Outcomes.{Outcome, Prints, labels_reading, report_reading}
use Rattle.flowlabel.specs.Output.{IsOutput, check_reading, label_text, minimal_text}
use Rattle.flow_files.proofs.ReadLemmas.{certificate_in, flows_in, list_in, map_in}
use Rattle.flowlabel.proofs.Outcomes.{keep_over, mapped_ok, printed_of, read_then, unwrapped}
use Rattle.flow_files.specs.declared.by_file.ByFile.{ByFile}
use Rattle.flowlabel.specs.Request.{Cat, Check, Command, Info, Label, Recert, Rows, Shrink, Uniq}
use Rattle.flow_files.specs.Sources.{Text}
use Rattle.flow_files.specs.declared.label_file.LabelFile.{LabelFile}
use Rattle.flow_files.specs.declared.label_file.LabelFile.TheVariants.{Map, List as Prefixes}
use Rattle.flowlabel.specs.declared.command.Shrunk.TheVariants as shrunk
use Rattle.flowlabel.proofs.commands.laws.output_keeps_headline.Goals as goal

-- a certificate that is read for a map and a list has no fault for them
faultless : (found : Option CheckFault) (l other : ListModel) → ◌≡◌ {A = Result ListModel BytesFault} (option_map_or (λ fault. Err (InCheck fault)) found (Ok l)) (Ok other)
    → (found ≡ None) × (l ≡ other)
faultless None l other is = (refl, cc)
faultless (Some fault) l other is = cc

-- the labels that are read of a map or a list
gives_labels : (file : LabelFile) (texts : ByFile Text) (labels : Labelling) → labels_reading file texts ≡ Ok labels → GivesLabels file texts labels
gives_labels (Map file) texts labels is =
    let (m, reads, same) = mapped_ok labelling_of_map InMap (map_reading texts.map) is in (m, reads, sym same ∙ labelling-of_map m)
gives_labels (Prefixes file) texts labels is =
    let (l, reads, same) = mapped_ok labelling_of_list InList (list_reading texts.list) is in (l, reads, sym same ∙ labelling-of_list l)

-- the titles of rows are those of their columns, with labels or without
titles_of_rows : (labels : Option Labelling) (row : RowView) → map (λ c. c.0) (row_columns labels row) ≡ title_line (is_some labels)
titles_of_rows None row = refl
titles_of_rows (Some l) row = refl

-- two texts that a command prints are equal
only : (command : Command) (texts : ByFile Text) → (outcome : Outcome) × IsOutput command texts outcome × ((other : Outcome) → IsOutput command texts other → other ≡ outcome)
    → {this that : List ℕ} → IsOutput command texts (Ok this) → IsOutput command texts (Ok that) → this ≡ that
only command texts (outcome, made, one) {this} {that} first second =
    let left : Ok this ≡ outcome = one (Ok this) first in
    let right : Ok that ≡ outcome = one (Ok that) second in
    cc

pub returns : goal.returns
returns c (Label file addr) texts out is =
    let (labels, reads, prints) = printed_of (λ l. Prints (label_text (addr.version, addr.value) l)) (labels_reading file texts) out is in
    (labels, gives_labels file texts labels reads, cc)
returns c (Info flows) texts out is =
    keep_over _ _ (flows_in texts) is (λ messages made. made ∙ ap (λ counts. Ok (info_text counts)) (c.counts_add_up.ensures.each messages))
returns c (Rows file condition columns flows) texts out is =
    keep_over _ _ (report_reading file texts) is (λ read made.
    let shown = passing condition read.0 (rows_of_messages read.1) in
    (λ k d below. titles_of_rows read.0 (slice_index_or shown k d), made))
returns c (Uniq fields file condition sorted columns flows) texts out is =
    keep_over _ _ (report_reading file texts) is (λ read made.
    subst (λ (outcome : Outcome). PrintsGroups fields sorted columns read.0 (passing condition read.0 (rows_of_messages read.1)) outcome) (sym made)
    (c.uniq_prints_groups.ensures fields sorted columns read.0 (passing condition read.0 (rows_of_messages read.1))))
returns c (Cat file) texts out is =
    keep_over _ _ (labels_reading file texts) is (λ labels (lines, runs, made). (
      runs.runs,
      (λ a below. c.runs_cover_each_address_once.ensures.once labels.version labels.label runs.runs runs.are a below),
      (λ r s. apart-runs labels.label 0 (2 ^ width_of labels.version) runs.runs runs.are r s),
      made ∙ ap Ok runs.is,
    ))
returns c (Shrink map shrunk.List) texts out is =
    let (m, map_reads, found) = printed_of _ (map_in texts) out is in
    let reads = unwrapped InMap (map_reading texts.map) map_reads in
    let (l, k, all) = c.shrunk_list_is_least.ensures map texts m reads in
    let (text, printed, again) = all.prints_list in
    (m, l, reads, all.shortest, subst (PrintsList l) (only (Shrink map shrunk.List) texts (c.one_output.ensures (Shrink map shrunk.List) texts) printed is) again)
returns c (Shrink map shrunk.Certificate) texts out is =
    let (m, map_reads, found) = printed_of _ (map_in texts) out is in
    let reads = unwrapped InMap (map_reading texts.map) map_reads in
    let (l, k, all) = c.shrunk_list_is_least.ensures map texts m reads in
    let (text, printed, again) = all.prints in
    (m, l, k, reads, all, ap format_reading (only (Shrink map shrunk.Certificate) texts (c.one_output.ensures (Shrink map shrunk.Certificate) texts) is printed) ∙ again)
returns c (Shrink map shrunk.Compact) texts out is =
    let (m, map_reads, found) = printed_of _ (map_in texts) out is in
    let reads = unwrapped InMap (map_reading texts.map) map_reads in
    let (l, k, all) = c.shrunk_list_is_least.ensures map texts m reads in
    let (text, printed, again) = all.prints_compact in
    (m, l, k, reads, all, ap format_reading (only (Shrink map shrunk.Compact) texts (c.one_output.ensures (Shrink map shrunk.Compact) texts) is printed) ∙ again)
returns c (Check map list certificate) texts out is =
    let (l, all, text_is) = printed_of (λ (l : ListModel). Prints (minimal_text (length l.prefixes)))
    (map_in texts >>= (λ m. list_in texts >>= (λ l. check_reading m l texts.certificate))) out is in
    let (m, map_reads, listed) = read_then (map_in texts) (λ m. list_in texts >>= (λ l. check_reading m l texts.certificate)) l all in
    let (own, list_reads, certified) = read_then (list_in texts) (λ l. check_reading m l texts.certificate) l listed in
    let (k, reads_k, found) = read_then (certificate_in texts) (λ k. option_map_or (λ fault. Err (InCheck fault)) (first_fault m own k) (Ok own)) l certified in
    let (none, same) = faultless (first_fault m own k) own l found in
    let reads = unwrapped InCertificate (format_reading texts.certificate) reads_k in
    let text : out ≡ minimal_text (length own.prefixes) = cc in
    let form = ((c.text_of_format_is_read_or_has_a_fault.ensures.read texts.certificate k).0 reads).0 in
    let accepted = c.no_fault_is_acceptance.ensures.accepted m own k form none in
    (m, own, unwrapped InMap (map_reading texts.map) map_reads, unwrapped InList (list_reading texts.list) list_reads, c.acceptance_is_enough.ensures.equivalent m own k accepted, c.acceptance_is_enough.ensures.least m own k accepted, text)
returns c (Recert certificate) texts out is =
    let (old, certificate_reads, prints) = printed_of (λ k. Prints (certificate_text (compact k))) (certificate_in texts) out is in
    let reads = unwrapped InCertificate (format_reading texts.certificate) certificate_reads in
    let form = ((c.text_of_format_is_read_or_has_a_fault.ensures.read texts.certificate old).0 reads).0 in
    let same : out ≡ certificate_text (compact old) = cc in
    let after : format_reading out ≡ Ok (compact old) =
    (c.text_of_format_is_read_or_has_a_fault.ensures.read out (compact old)).1 (c.compact_has_a_text.ensures.text old form, same) in
    record {
      old = old;
      reads_old = reads;
      reads_new = after;
      lines = c.compact_has_no_more_lines.ensures.lines old form.format;
      again = rw after (ap (λ (t : List ℕ). Ok t) (same ∙ ap certificate_text (sym (c.compact_gives_back_equal.ensures.twice old form.format))));
      checks = λ m l none.
          c.no_fault_is_acceptance.ensures.no_fault m l (compact old)
          (c.compact_keeps_acceptance.ensures m l old form.format (c.no_fault_is_acceptance.ensures.accepted m l old form none));
    }
