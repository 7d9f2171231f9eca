use Rattle.std.proofs.Common.{◌≡◌, ◌∙◌, ℕ, List, Option, Result, Ok, Err, ap, refl}
use Rattle.std.specs.Prelude.{length}
use Rattle.pmap_model.specs.ListModel.{ListModel}
use Rattle.pmap_model.specs.Steps.{◌>>=◌}
use Rattle.pmap_text.specs.Reading.{map_reading}
use Rattle.label_lookup.specs.Labelling.{Labelling}
use Rattle.pmap_cert.specs.CertificateText.{certificate_text}
use Rattle.pmap_cert.specs.Compacting.{compact}
use Rattle.ipfix_read.specs.Message.{MessageView}
use Rattle.flow_rows.specs.Counts.{counts_of, rows_of_messages}
use Rattle.flow_filter.specs.Condition.{passing}
use Rattle.pmap_print.specs.Reports.{info_text}
use Rattle.pmap_print.specs.Table.{table_text}
use Rattle.pmap_stretches.specs.RunsText.{IsRunsText, runs_text}
use Rattle.flow_files.specs.declared.bytes_fault.BytesFault.{BytesFault}
use Rattle.flow_files.specs.declared.bytes_fault.BytesFault.TheVariants.{Map as InMap}
use Rattle.flow_files.specs.Groups.{uniq_text}
use Rattle.flow_files.specs.Outcomes.{Outcome, Prints, Then, labels_reading, report_reading}
use Rattle.flow_files.proofs.ReadLemmas.{certificate_in, flows_in, list_in, map_in}
use Rattle.flowlabel.specs.Output.{check_reading, label_text, labelled_row_lines, minimal_text, shrunk_text}
use Rattle.flowlabel.proofs.Outcomes.{unwrapped}
use Rattle.flowlabel.specs.Request.{Cat, Check, Info, Label, Recert, Rows, Shrink, Uniq}
use Rattle.flowlabel.proofs.commands.laws.one_output.Goals as goal

-- exactly one outcome meets the condition
abbrev One : (Outcome → Type 0) → Type 0
One Is = (outcome : Outcome) × Is outcome × ((other : Outcome) → Is other → other ≡ outcome)

-- there is one outcome over texts, if there is one for each value that they are read as
value_one : {A : Type 0} (rest : A → Outcome → Type 0) (reading : Result A BytesFault) → ((x : A) → reading ≡ Ok x → One (rest x))
    → One (Then rest reading)
value_one rest (Ok x) one = one x refl
value_one rest (Err f) one = (Err f, refl, (λ other is. is))

prints_one : {A : Type 0} (text : A → List ℕ) (reading : Result A BytesFault) → One (Then (λ a. Prints (text a)) reading)
prints_one text reading = value_one (λ a. Prints (text a)) reading (λ a reads. (Ok (text a), refl, (λ other is. is)))

pub returns : goal.returns
returns c (Label file addr) texts = prints_one (label_text (addr.version, addr.value)) (labels_reading file texts)
returns c (Info flows) texts = prints_one (λ messages. info_text (counts_of messages)) (flows_in texts)
returns c (Rows file condition columns flows) texts =
    prints_one (λ (read : Option Labelling × List MessageView).
    table_text columns (labelled_row_lines read.0 (passing condition read.0 (rows_of_messages read.1)))) (report_reading file texts)
returns c (Uniq fields file condition sorted columns flows) texts =
    prints_one (λ (read : Option Labelling × List MessageView).
    uniq_text fields sorted columns read.0 (passing condition read.0 (rows_of_messages read.1))) (report_reading file texts)
returns c (Cat file) texts =
    value_one _ (labels_reading file texts) (λ labels reads.
    let (runs, are) = c.labelling_has_its_runs.ensures.exist labels.version labels.label in
    let text = runs_text labels.version runs in
    let is : IsRunsText labels.version labels.label text = record { runs = runs; are = are; is = refl } in (
      Ok text,
      (text, is, refl),
      λ other (text', is', prints).
          prints ∙ ap Ok (c.labelling_has_one_runs_text.ensures.one labels.version labels.label text' text is' is),
    ))
returns c (Shrink map printed) texts =
    value_one _ (map_in texts) (λ m reads.
    let (l, k, pair, form) = c.map_text_has_a_minimal_pair.ensures texts.map m (unwrapped InMap (map_reading texts.map) reads) in (
      Ok (shrunk_text printed l k),
      (l, k, pair, refl),
      λ other (l', k', pair', prints).
          let list : l' ≡ l = c.minimal_pair_is_unique.ensures.lists m l' l k' k pair' pair in
          let certificate : k' ≡ k = c.minimal_pair_is_unique.ensures.certificates m l' l k' k pair' pair in
          cc,
    ))
returns c (Check map list certificate) texts =
    prints_one (λ (l : ListModel). minimal_text (length l.prefixes)) (map_in texts >>= (λ m. list_in texts >>= (λ l. check_reading m l texts.certificate)))
returns c (Recert certificate) texts = prints_one (λ k. certificate_text (compact k)) (certificate_in texts)
