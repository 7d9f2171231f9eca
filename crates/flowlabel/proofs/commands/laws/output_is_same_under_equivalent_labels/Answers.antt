use Rattle.std.proofs.Common.{◌≡◌, ◌∙◌, List, Option, Some, Ok, Result, ap, subst, sym}
use Rattle.std.specs.Prelude.{◌↔◌}
use Rattle.std.specs.Result.{result_map_both}
use Rattle.pmap_model.specs.Steps.{◌>>=◌}
use Rattle.pmap_stretches.specs.RunsText.{IsRunsText}
use Rattle.ipfix_read.specs.Message.{MessageView}
use Rattle.flow_rows.specs.Counts.{rows_of_messages}
use Rattle.flow_filter.specs.Condition.{passing}
use Rattle.label_lookup.specs.Labelling.{Labelling, labelling_of_list, labelling_of_map}
use Rattle.label_lookup.proofs.Labellings.{same_labelling}
use Rattle.pmap_print.specs.Table.{table_text}
use Rattle.flow_files.specs.declared.bytes_fault.BytesFault.{BytesFault}
use Rattle.flow_files.specs.declared.bytes_fault.BytesFault.TheVariants.{List as InList, Map as InMap}
use Rattle.flow_files.specs.declared.label_file.LabelFile.TheVariants.{Map, List as Prefixes}
use Rattle.flow_files.specs.Groups.{uniq_text}
use Rattle.flow_files.specs.Outcomes.{Outcome, Prints, Then, labels_reading}
use Rattle.flow_files.specs.Sources.{Text}
use Rattle.flow_files.proofs.ReadLemmas.{report_after}
use Rattle.flowlabel.specs.Output.{label_text, labelled_row_lines}
use Rattle.flowlabel.proofs.commands.laws.output_is_same_under_equivalent_labels.Goals as goal

pub returns : goal.returns
returns c name texts m l reads_map reads_list equivalent =
    let same : labels_reading (Map name) texts ≡ labels_reading (Prefixes name) texts =
    ap (result_map_both labelling_of_map InMap) reads_map ∙ ap (λ (labels : Labelling). Ok labels) (sym (same_labelling l m equivalent))
    ∙ sym (ap (result_map_both labelling_of_list InList) reads_list) in
    let both : (over : Result Labelling BytesFault → Outcome → Type 0) (outcome : Outcome)
    → over (labels_reading (Map name) texts) outcome ↔ over (labels_reading (Prefixes name) texts) outcome =
    λ over outcome. (subst (λ (r : Result Labelling BytesFault). over r outcome) same, subst (λ (r : Result Labelling BytesFault). over r outcome) (sym same)) in
    let report : Result Labelling BytesFault → Result (Option Labelling × List MessageView) BytesFault =
    λ labels. (labels >>= (λ l. Ok (Some l))) >>= (λ labels. report_after labels texts) in (
      λ addr. both (Then (λ l. Prints (label_text (addr.version, addr.value) l))),
      (λ condition columns. both (λ labels. Then (λ read. Prints (table_text columns
          (labelled_row_lines read.0 (passing condition read.0 (rows_of_messages read.1))))) (report labels))),
      (λ fields condition sorted columns. both (λ labels. Then (λ read. Prints (uniq_text fields sorted columns read.0
          (passing condition read.0 (rows_of_messages read.1)))) (report labels))),
      both (Then (λ l outcome. (text : Text) × IsRunsText l.version l.label text × Prints text outcome)),
    )
