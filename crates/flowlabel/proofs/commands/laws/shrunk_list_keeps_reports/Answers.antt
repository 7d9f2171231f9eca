use Rattle.std.proofs.Common.{◌≡◌, ◌∙◌, Some, Ok, ap, refl}
use Rattle.pmap_model.specs.ListModel.{IsEquivalent, ListModel}
use Rattle.pmap_text.specs.Reading.{list_reading}
use Rattle.label_lookup.specs.Labelling.{labelling_of_map}
use Rattle.flowlabel.specs.Headline.{IsReadAgain}
use Rattle.flowlabel.specs.Output.{IsOutput, labelled_row_lines}
use Rattle.flow_files.specs.declared.by_file.ByFile.{ByFile}
use Rattle.flowlabel.specs.Request.{Rows, Shrink, Uniq}
use Rattle.flow_files.specs.Sources.{Text}
use Rattle.flow_files.specs.declared.label_file.LabelFile.TheVariants.{Map}
use Rattle.flowlabel.specs.declared.command.Shrunk.TheVariants as shrunk
use Rattle.flow_rows.specs.Counts.{rows_of_messages}
use Rattle.flow_filter.specs.Condition.{passing}
use Rattle.pmap_print.specs.Table.{table_text}
use Rattle.flow_files.specs.Groups.{uniq_text}
use Rattle.flowlabel.proofs.commands.laws.shrunk_list_keeps_reports.Goals as goal

pub returns : goal.returns
returns c name texts m messages printed reads reads_flows is =
    let (l, k, all) = c.shrunk_list_is_least.ensures name texts m reads in
    let (text, shrinks, again) = all.prints_list in
    let (outcome, made, one) = c.one_output.ensures (Shrink name shrunk.List) texts in
    let left : Ok printed ≡ outcome = one (Ok printed) is in
    let right : Ok text ≡ outcome = one (Ok text) shrinks in
    let same : printed ≡ text = cc in (
      l,
      same ∙ again.0,
      λ few few_labels.
          let read : IsReadAgain l text = again.1 few few_labels in
          let list : ListModel = record l { table = read.table } in
          let reads_list : list_reading printed ≡ Ok list = ap list_reading same ∙ read.reads in
          let alike : IsEquivalent list m = record { version = all.shortest.equivalent.version; labels = all.shortest.equivalent.labels } in
          let given : ByFile Text = record texts { list = printed } in
          let under = c.output_is_same_under_equivalent_labels.ensures name given m list reads reads_list alike in (
            λ condition columns.
                let out : Text = table_text columns (labelled_row_lines (Some (labelling_of_map m)) (passing condition (Some (labelling_of_map m)) (rows_of_messages messages))) in
                let under_map : IsOutput (Rows (Some (Map name)) condition columns name) texts (Ok out) = rw (reads, reads_flows) refl in
                let with_list : IsOutput (Rows (Some (Map name)) condition columns name) given (Ok out) = under_map in
                let says = c.output_keeps_headline.ensures (Rows (Some (Map name)) condition columns name) texts out under_map in
                (out, under_map, ((under.1 condition columns) (Ok out)).0 with_list, rw (reads, reads_flows) at says),
            λ fields condition sorted columns.
                let out : Text = uniq_text fields sorted columns (Some (labelling_of_map m)) (passing condition (Some (labelling_of_map m)) (rows_of_messages messages)) in
                let under_map : IsOutput (Uniq fields (Some (Map name)) condition sorted columns name) texts (Ok out) = rw (reads, reads_flows) refl in
                let with_list : IsOutput (Uniq fields (Some (Map name)) condition sorted columns name) given (Ok out) = under_map in
                let says = c.output_keeps_headline.ensures (Uniq fields (Some (Map name)) condition sorted columns name) texts out under_map in
                (out, under_map, ((under.2 fields condition sorted columns) (Ok out)).0 with_list, rw (reads, reads_flows) at says),
          ),
    )
