use Rattle.std.proofs.Common.{◌≡◌, ◌∙◌, ◌++◌, ◌∷◌, [], Bool, List, Option, is_some, option_map, subst, sym}
use Rattle.std.proofs.lemmas.Result.{on_ok_weaker}
use Rattle.label_lookup.specs.Labelling.{Labelling}
use Rattle.pmap_print.specs.Reports.{column_count, label_texts, row_line}
use Rattle.pmap_print.specs.Table.{IsTable, Line}
use Rattle.flowlabel.specs.Output.{labelled_row_lines}
use Rattle.flow_files.specs.Reports.{labelling_found}
use Rattle.flowlabel.proofs.RowLemmas.{lines_more, same_labelled}
use Rattle.flowlabel.proofs.commands.rows.LinesTakesRows.take_row.Goals as goal

pub add_row-requires : goal.add_row-requires
add_row-requires c =
    let labels : Option Labelling = labelling_found c.args.labels in
    let (first, rows, has, few) = c.requires in (
      labelled_row_lines labels rows,
      subst (λ (b : Bool). IsTable (column_count b) (labelled_row_lines labels rows) c.args.self.now.table)
          (sym (same_labelled labels c.labels_under.result c.args.row.now c.labels_under.ensures)) has.lines,
    )

pub returns : goal.returns
returns c =
    let labels : Option Labelling = labelling_found c.args.labels in
    let row = c.args.row.now in
    let same : is_some c.labels_under.result ≡ is_some labels = same_labelled labels c.labels_under.result row c.labels_under.ensures in
    on_ok_weaker c.add_row.result
    (λ line first rows has.
    let lines : List Line = labelled_row_lines labels rows in
    record {
      padded = c.add_row.ensures.columns ∙ has.padded;
      lines =
          subst (λ (ls : List Line). IsTable (column_count (is_some labels)) ls c.add_row.new.self)
          ((λ i. lines ++ row_line row (c.labels_under.ensures i) ∷ []) ∙ sym (lines_more labels rows row))
          (subst (λ (b : Bool). IsTable (column_count b) (lines ++ row_line row (option_map label_texts c.labels_under.result) ∷ []) c.add_row.new.self) same
          (line lines (subst (λ (b : Bool). IsTable (column_count b) lines c.args.self.now.table) (sym same) has.lines)));
    })
    c.add_row.ensures.line
