use Rattle.std.proofs.Common.{◌≡◌, ◌∙◌, [], ◌∷◌, ◌++◌, All, Bool, List, Option, None, Some, Result, Ok, ap, drop, filter, map, refl, subst, sym}
use Rattle.std.specs.Prelude.{is_some}
use Rattle.std.specs.Borrow.{Bor}
use Rattle.std.specs.List.{flat_map}
use Rattle.std.specs.Result.{result_map_both}
use Rattle.std.proofs.lemmas.List.{map-append}
use Rattle.std.proofs.lemmas.List.Elements.{All-cons, All-weaker, filter-append}
use Rattle.ipfix_read.specs.Message.{MessageView}
use Rattle.ipfix_read.specs.Laws.{CanFollow, File, IsRead, IsSelfContained, joined}
use Rattle.flow_rows.specs.Counts.{counts_of, rows_of_messages}
use Rattle.flow_rows.specs.Elements.{RowView}
use Rattle.flow_rows.proofs.Adding.{joined_file_adds_up}
use Rattle.flow_filter.specs.Condition.{Condition, passing, row_passes}
use Rattle.flow_uniq.specs.declared.field.KeyField.{KeyField}
use Rattle.flow_uniq.specs.Groups.{GroupModel, groups_of, shown_groups}
use Rattle.flow_uniq.specs.Laws.{merged}
use Rattle.flow_uniq.proofs.MergedParts.{merged_are_all}
use Rattle.label_lookup.specs.Labelling.{Labelling, label_where}
use Rattle.pmap_model.specs.Steps.{◌>>=◌}
use Rattle.pmap_print.specs.Reports.{groups_text, info_text, title_line}
use Rattle.pmap_print.specs.Table.{Line, table_text}
use Rattle.flow_files.specs.declared.by_file.ByFile.{ByFile}
use Rattle.flow_files.specs.ByFile.{with_at}
use Rattle.flow_files.specs.ByFile as role
use Rattle.flow_files.specs.declared.bytes_fault.BytesFault.TheVariants.{Flows as InFlows}
use Rattle.flowlabel.specs.declared.command.Command.TheVariants.{Cat, Info, Label, Rows, Uniq}
use Rattle.flow_files.specs.declared.label_file.LabelFile.{LabelFile}
use Rattle.flow_files.specs.declared.label_file.LabelFile.TheVariants.{Map, List as Prefixes}
use Rattle.flowlabel.specs.Joined.{IsPutTogether}
use Rattle.flow_files.specs.declared.bytes_fault.BytesFault.{BytesFault}
use Rattle.flow_files.specs.Groups.{uniq_text}
use Rattle.flow_files.specs.Outcomes.{Outcome, Prints, Then, report_reading, source_reading, with_bytes_fault}
use Rattle.flowlabel.specs.Output.{IsOutput, labelled_row_lines}
use Rattle.flow_files.specs.Sources.{Text}
use Rattle.flow_files.proofs.ReadLemmas.{flows_in}
use Rattle.flow_files.proofs.GroupLemmas.{groups-table}
use Rattle.flowlabel.proofs.Outcomes.{printed_of, read_then}
use Rattle.flowlabel.proofs.RowLemmas.{line_of_row}
use Rattle.flowlabel.proofs.commands.joined.output_of_joined_file.Goals as goal

-- ---- lists in parts

module _ {X A : Type 0} (f : List A → List X) (empty : f [] ≡ []) (append : (xs ys : List A) → f (xs ++ ys) ≡ f xs ++ f ys) where
  of_parts : {F : Type 0} (part : F → List A) (files : List F) → f (flat_map part files) ≡ flat_map (λ file. f (part file)) files
  of_parts part [] = empty
  of_parts part (file ∷ files) = append (part file) (flat_map part files) ∙ ap (λ (l : List X). f (part file) ++ l) (of_parts part files)

changed_parts : {F A B : Type 0} (f : List A → List B) (part : F → List A) (files : List F)
    → flat_map f (map part files) ≡ flat_map (λ file. f (part file)) files
changed_parts f part [] = refl
changed_parts {B = B} f part (file ∷ files) = ap (λ (l : List B). f (part file) ++ l) (changed_parts f part files)

-- ---- the outcome over a File

text_is : (out text : Text) → ◌≡◌ {A = Outcome} (Ok out) (Ok text) → out ≡ text
text_is out text e = cc

-- labels don't come from a File
same_source : (source : Option LabelFile) (flows : Text) (texts : ByFile Text)
    → source_reading source (with_at role.Flows flows texts) ≡ source_reading source texts
same_source None flows texts = refl
same_source (Some (Map file)) flows texts = refl
same_source (Some (Prefixes file)) flows texts = refl

-- what a report over a File that is read is on, by the labels
report_over : (labels : Option LabelFile) (texts : ByFile Text) (file : File) → IsRead file
    → report_reading labels (with_at role.Flows file.0 texts) ≡ (source_reading labels texts >>= (λ l. Ok (l, file.1)))
report_over labels texts file read = λ i. same_source labels file.0 texts i >>= (λ l. result_map_both (λ messages. (l, messages)) InFlows (read i))

-- ---- the commands

module _ (first : File) (later : List File) (follow : CanFollow first later) (texts : ByFile Text) (out : Text) where
  abbrev files : List File
  files = first ∷ later

  abbrev whole : File
  whole = joined files

  all_read : All IsRead files
  all_read = All-cons IsRead first later follow.reads (All-weaker IsSelfContained IsRead (λ file alone. alone.0) later follow.alone)

  -- the rows of the joined File that are shown
  abbrev shown : Condition → Option Labelling → File → List RowView
  shown condition l file = passing condition l (rows_of_messages file.1)

  shown_are : (condition : Condition) (l : Option Labelling) → shown condition l whole ≡ flat_map (shown condition l) files
  shown_are condition l =
      let passes = row_passes condition (label_where l) in
      ap (passing condition l) (joined_file_adds_up first later follow).1
      ∙ of_parts (filter passes) refl (filter-append passes) (λ (file : File). rows_of_messages file.1) files

  module _ (rest : Option Labelling × List MessageView → Outcome → Type 0) (labels : Option LabelFile)
      (is : Then rest (report_reading labels (with_at role.Flows whole.0 texts)) (Ok out)) where
    found : (l : Option Labelling) × (source_reading labels texts ≡ Ok l) × rest (l, whole.1) (Ok out)
    found =
        let (read, reads, holds) = printed_of rest _ out is in
        let (l, source, same) = read_then (source_reading labels texts) (λ l. Ok (l, whole.1)) read
        (sym (report_over labels texts whole (joined_file_adds_up first later follow).0) ∙ reads) in
        let own : (l, whole.1) ≡ read = cc in
        (l, source, subst (λ (r : Option Labelling × List MessageView). rest r (Ok out)) (sym own) holds)

    each_prints : (text : File → Text) → ((file : File) → rest (found.0, file.1) (Ok (text file)))
        → All (λ file. Then rest (report_reading labels (with_at role.Flows file.0 texts)) (Ok (text file))) files
    each_prints text prints =
        All-weaker IsRead (λ file. Then rest (report_reading labels (with_at role.Flows file.0 texts)) (Ok (text file)))
        (λ file read.
        subst (λ (r : Result (Option Labelling × List MessageView) BytesFault). Then rest r (Ok (text file)))
        (sym (report_over labels texts file read ∙ ap (λ (source : Result (Option Labelling) BytesFault). source >>= (λ l. Ok (l, file.1))) found.1)) (prints file)) files all_read

  info_output : (flows : Bor Text) → IsOutput (Info flows) (with_at role.Flows whole.0 texts) (Ok out) → IsPutTogether (Info flows) texts files out
  info_output flows is =
      let over : (file : File) → IsRead file → flows_in (with_at role.Flows file.0 texts) ≡ Ok file.1 = λ file read. ap (with_bytes_fault InFlows) read in
      let rest : List MessageView → Outcome → Type 0 = λ messages. Prints (info_text (counts_of messages)) in (
        All-weaker IsRead (λ file. Then rest (flows_in (with_at role.Flows file.0 texts)) (Ok (info_text (counts_of file.1))))
            (λ file read. subst (λ (r : Result (List MessageView) BytesFault). Then rest r (Ok (info_text (counts_of file.1)))) (sym (over file read)) refl) files all_read,
        text_is out (info_text (counts_of whole.1))
            (subst (λ (r : Result (List MessageView) BytesFault). Then rest r (Ok out)) (over whole (joined_file_adds_up first later follow).0) is)
            ∙ ap info_text (joined_file_adds_up first later follow).2,
      )

  rows_output : (labels : Option LabelFile) (condition : Condition) (columns : Bool) (flows : Bor Text)
      → IsOutput (Rows labels condition columns flows) (with_at role.Flows whole.0 texts) (Ok out) → IsPutTogether (Rows labels condition columns flows) texts files out
  rows_output labels condition columns flows is =
      let printed : Option Labelling → List RowView → Text = λ l rows. table_text columns (labelled_row_lines l rows) in
      let rest : Option Labelling × List MessageView → Outcome → Type 0 =
      λ read. Prints (printed read.0 (passing condition read.0 (rows_of_messages read.1))) in
      let l : Option Labelling = (found rest labels is).0 in
      let lines : map (line_of_row l) (shown condition l whole) ≡ flat_map (λ file. drop 1 (labelled_row_lines l (shown condition l file))) files =
      ap (map (line_of_row l)) (shown_are condition l) ∙ of_parts (map (line_of_row l)) refl (map-append (line_of_row l)) (shown condition l) files in (
        l,
        (
          each_prints rest labels is (λ file. printed l (shown condition l file)) (λ file. refl),
          text_is out (printed l (shown condition l whole)) (found rest labels is).2
              ∙ ap (λ (own : List Line). table_text columns (title_line (is_some l) ∷ own)) lines,
        ),
      )

  uniq_output : (fields : List KeyField) (labels : Option LabelFile) (condition : Condition) (sorted columns : Bool) (flows : Bor Text)
      → IsOutput (Uniq fields labels condition sorted columns flows) (with_at role.Flows whole.0 texts) (Ok out)
      → IsPutTogether (Uniq fields labels condition sorted columns flows) texts files out
  uniq_output fields labels condition sorted columns flows is =
      let grouped : Option Labelling → List RowView → List GroupModel = λ l rows. shown_groups sorted (groups_of fields (label_where l) rows) in
      let printed : List GroupModel → Text = λ groups. groups_text fields groups columns in
      let rest : Option Labelling × List MessageView → Outcome → Type 0 =
      λ read. Prints (uniq_text fields sorted columns read.0 (passing condition read.0 (rows_of_messages read.1))) in
      let l : Option Labelling = (found rest labels is).0 in
      let groups : grouped l (shown condition l whole) ≡ shown_groups sorted (merged (flat_map (λ file. grouped l (shown condition l file)) files)) =
      ap (grouped l) (shown_are condition l ∙ sym (changed_parts (λ (rows : List RowView). rows) (shown condition l) files))
      ∙ merged_are_all fields (label_where l) sorted (map (shown condition l) files)
      ∙ ap (λ (all : List GroupModel). shown_groups sorted (merged all)) (changed_parts (grouped l) (shown condition l) files) in (
        l,
        (
          each_prints rest labels is (λ file. printed (grouped l (shown condition l file)))
              (λ file. ap Ok (groups-table fields sorted columns l (shown condition l file))),
          text_is out (uniq_text fields sorted columns l (shown condition l whole)) (found rest labels is).2
              ∙ sym (groups-table fields sorted columns l (shown condition l whole)) ∙ ap printed groups,
        ),
      )

pub returns : goal.returns
returns c first later follow (Info flows) texts out is = info_output first later follow texts out flows is
returns c first later follow (Rows labels condition columns flows) texts out is = rows_output first later follow texts out labels condition columns flows is
returns c first later follow (Uniq fields labels condition sorted columns flows) texts out is =
    uniq_output first later follow texts out fields labels condition sorted columns flows is
returns c first later follow (Label (Map file) addr) texts out is = λ k d low. is
returns c first later follow (Label (Prefixes file) addr) texts out is = λ k d low. is
returns c first later follow (Cat (Map file)) texts out is = λ k d low. is
returns c first later follow (Cat (Prefixes file)) texts out is = λ k d low. is
returns c first later follow command texts out is = λ k d low. is
