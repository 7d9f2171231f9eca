use Rattle.std.proofs.Common.{◌≡◌, ◌∙◌, Ok, ap, map, subst, sym, true}
use Rattle.std.specs.Prelude.{option_map}
use Rattle.pmap_model.specs.Steps.{◌>>=◌}
use Rattle.flow_uniq.specs.Groups.{GroupsModel, shown_groups}
use Rattle.pmap_print.specs.Reports.{groups_text}
use Rattle.flow_files.specs.Groups.{uniq_text}
use Rattle.flow_files.specs.Reports.{labelling_found, labelling_read, passing_rows}
use Rattle.flow_files.proofs.ReadLemmas.{found_is, handed_on}
use Rattle.flow_many.specs.Files.{Refusal, files_reading, of_file}
use Rattle.flow_many.specs.Output.{all_messages, has_time, refusal_by}
use Rattle.flow_many.specs.Request.{Sum}
use Rattle.flow_many.specs.Run.{EndsAs, IsFaultOfFiles}
use Rattle.flow_many.proofs.CommandLemmas.{ends_faulty, ends_written, labels_found, sums_text}
use Rattle.flow_many.proofs.commands.sum.Goals as goal

pub returns-in_err-read_files : goal.returns-in_err-read_files
returns-in_err-read_files g c =
    let asked = c.args.asked in
    let names = map (λ name. name.now) c.args.names.now in
    let labels = option_map labelling_read c.in_ok-read.read in
    let labels_are : labelling_found c.as_ref.result ≡ labels = found_is c.as_ref.result c.in_ok-index.index labels c.as_ref.ensures.value c.in_ok-index.ensures in
    let refusal = c.in_ok-sums.ensures.refusal ∙ ap (refusal_by (has_time asked.keys.now) asked.filter.now asked.allow_skipped) labels_are in
    let command = Sum asked.keys.now asked.labels asked.filter.now asked.allow_skipped asked.columns names in
    let answers = g.O.Opener.answers c.args.opener.now in
    handed_on (EndsAs answers g.O.Reader.Input.input g.W.Output.output command c.args.labels.now c.read_labels.new.files c.args.writer.now c.args.writer.now)
    c.from_residual-in_err-read_files.result c.in_err-read_files.field-0.0 c.from_residual-in_err-read_files.ensures.1
    (ends_faulty answers g.O.Reader.Input.input g.W.Output.output command c.args.labels.now c.read_labels.new.files c.args.writer.now c.in_ok-read.ensures.read.gives.0 labels
    (labels_found asked.labels c.in_ok-read.read c.in_ok-read.ensures.read) c.in_err-read_files.field-0.0
    (subst (λ (r : Refusal). IsFaultOfFiles answers g.O.Reader.Input.input r names c.in_err-read_files.field-0.0) refusal c.in_err-read_files.ensures))

pub returns : goal.returns
returns g c =
    let asked = c.args.asked in
    let names = map (λ name. name.now) c.args.names.now in
    let labels = option_map labelling_read c.in_ok-read.read in
    let labels_are : labelling_found c.as_ref.result ≡ labels = found_is c.as_ref.result c.in_ok-index.index labels c.as_ref.ensures.value c.in_ok-index.ensures in
    let refusal = c.in_ok-sums.ensures.refusal ∙ ap (refusal_by (has_time asked.keys.now) asked.filter.now asked.allow_skipped) labels_are in
    let sums = c.read_files.new.taker in
    let (readers, were, have) = c.in_ok-read_files.ensures in
    ends_written (g.O.Opener.answers c.args.opener.now) g.O.Reader.Input.input g.W.Output.output
    (Sum asked.keys.now asked.labels asked.filter.now asked.allow_skipped asked.columns names) c.args.labels.now c.read_labels.new.files c.args.writer.now c.print_to.new.writer readers
    (groups_text sums.rows.groups.fields (shown_groups true sums.rows.groups.groups) asked.columns) were c.in_ok-read.ensures.read.gives.0
    (λ labels_text texts are given. let (files, reads, has) = have texts given in
    ap (λ found. of_file 0 found >>= (λ labels.
    files_reading (refusal_by (has_time asked.keys.now) asked.filter.now asked.allow_skipped labels) texts >>= (λ files.
    Ok (uniq_text asked.keys.now true asked.columns labels (passing_rows asked.filter.now labels (all_messages files))))))
    (labels_found asked.labels c.in_ok-read.read c.in_ok-read.ensures.read labels_text are)
    ∙ ap (λ read. read >>= (λ files. Ok (uniq_text asked.keys.now true asked.columns labels (passing_rows asked.filter.now labels (all_messages files)))))
    (ap (λ r. files_reading r texts) (sym refusal) ∙ reads)
    ∙ ap Ok (sums_text c.in_ok-sums.sums sums files asked.keys.now asked.filter.now asked.columns labels has c.in_ok-sums.ensures.fields
    c.in_ok-sums.ensures.filter (c.in_ok-sums.ensures.labels ∙ labels_are)))
    c.output_keeps_headline.ensures
    (λ text is. is ∙ c.in_ok-text.ensures ∙ ap (λ (groups : GroupsModel). groups_text groups.fields (shown_groups true groups.groups) asked.columns) c.groups.ensures)
    c.print_to.result c.print_to.ensures
