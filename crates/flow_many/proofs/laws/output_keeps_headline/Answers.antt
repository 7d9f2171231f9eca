use Rattle.std.proofs.Common.{◌≡◌, Bool, List, [], ◌∷◌, None, Ok, Result, map, refl, subst, sym, true}
use Rattle.std.specs.Prelude.{All}
use Rattle.std.proofs.lemmas.List.Elements.{All-cons, All-nil}
use Rattle.ipfix_read.specs.Message.{MessageView}
use Rattle.ipfix_read.specs.Messages.{messages_in}
use Rattle.flow_filter.specs.Condition.{passing}
use Rattle.flow_rows.specs.Counts.{rows_of_messages}
use Rattle.flow_rows.specs.Elements.{RowView}
use Rattle.pmap_print.specs.Messages.{messages_text}
use Rattle.flow_files.specs.Groups.{PrintsGroups, uniq_text}
use Rattle.flow_files.specs.Outcomes.{source_reading}
use Rattle.flow_files.specs.Sources.{Text}
use Rattle.flow_many.specs.Files.{FileFault, Placed, files_reading, of_file}
use Rattle.flow_many.specs.Output.{all_messages, has_time, refusal_by}
use Rattle.flow_many.specs.Headline.{AddsUp}
use Rattle.flow_many.specs.Request.{Messages, Sum}
use Rattle.flow_many.proofs.FilesLemmas.{file_ok, first_ok}
use Rattle.flow_many.proofs.HeadlineLemmas.{AreRead, are_read, files_are, none_skipped, rows_are}
use Rattle.flow_many.proofs.laws.output_keeps_headline.Goals as goal

-- what is printed is the text
printed : (read : Result Text FileFault) (text out : Text) → read ≡ Ok text → read ≡ Ok out → text ≡ out
printed read text out is also = cc

-- the counts of a File's lines add up
adds_up : ((messages : List MessageView) → AddsUp messages) → (files : List (List Placed)) → All (λ file. AddsUp (messages_in file)) files
adds_up law [] = All-nil (λ (file : List Placed). AddsUp (messages_in file))
adds_up law (file ∷ files) = All-cons (λ (file : List Placed). AddsUp (messages_in file)) file files (law (messages_in file)) (adds_up law files)

pub returns : goal.returns
returns c (Sum fields source condition allowed columns names) labels_text texts out is =
    let (labels, found, rest) = first_ok (of_file 0 (source_reading source labels_text)) _ out is in
    let refusal = refusal_by (has_time fields) condition allowed labels in
    let (files, reads, prints) = first_ok (files_reading refusal texts) _ out rest in
    let read = are_read refusal 1 0 texts files reads in
    let rows = passing condition labels (rows_of_messages (all_messages files)) in
    let grouped = c.uniq_prints_groups.ensures fields true columns labels rows in (
      labels,
      file_ok 0 (source_reading source labels_text) labels found,
      map messages_in files,
      files_are c.placed_are_messages.ensures texts files read.placed,
      λ refuses. none_skipped (has_time fields) condition labels files
          (subst (λ (a : Bool). AreRead (refusal_by (has_time fields) condition a labels) texts files) refuses read).allowed,
      subst (λ (rows : List RowView). PrintsGroups fields true columns labels (passing condition labels rows) (Ok out)) (rows_are files)
          (subst (λ (text : Text). PrintsGroups fields true columns labels rows (Ok text)) (printed _ (uniq_text fields true columns labels rows) out refl prints) grouped),
    )
returns c (Messages names) labels_text texts out is =
    let (files, reads, prints) = first_ok (files_reading (λ before message. None) texts) _ out is in
    let read = are_read (λ before message. None) 1 0 texts files reads in (
      files,
      read.placed,
      sym (printed _ (messages_text files) out refl prints),
      adds_up c.message_counts_add_up.ensures files,
    )
