use Rattle.std.proofs.Common.{◌+◌, ◌∙◌, ◌∷◌, [], Bool, List, is_some, subst, sym, take}
use Rattle.pmap_print.specs.Table.{IsTable, Line, table_text}
use Rattle.pmap_print.specs.Reports.{column_count, title_line}
use Rattle.pmap_print.proofs.RowLines.{all_lines, header_alone, line_added, lines_of}
use Rattle.pmap_print.proofs.rows.print_rows.Goals as goal

pub loop-i-init : goal.loop-i-init
loop-i-init c = record {
  lines =
      subst (λ (lines : List Line). IsTable (column_count (is_some c.args.labels)) lines c.in_ok-table.table) (header_alone c.args.rows.now c.args.labels)
      (subst (λ (b : Bool). IsTable (column_count b) (title_line b ∷ []) c.in_ok-table.table) c.is_some.ensures c.in_ok-table.ensures.header);
  columns = c.in_ok-table.ensures.columns;
}

pub add_row-requires : goal.add_row-requires
add_row-requires c = (take (c.loop-i.i + 1) (lines_of c.args.rows.now c.args.labels), rw c.labels_at.ensures.given c.loop-i.invariant.lines)

pub loop-i-preserved : goal.loop-i-preserved
loop-i-preserved c =
    let given = c.labels_at.ensures.given in
    record {
      lines =
          subst (λ (lines : List Line). IsTable (column_count (is_some c.args.labels)) lines c.add_row.new.self)
          (line_added c.args.rows.now c.args.labels c.loop-i.i c.index-rows-i.result _ c.requires c.index-rows-i.is c.loop-i-test.true c.labels_at.ensures.texts)
          (rw (sym given) (c.in_ok-add_row.ensures.line (take (c.loop-i.i + 1) (lines_of c.args.rows.now c.args.labels)) (rw given c.loop-i.invariant.lines)));
      columns = c.in_ok-add_row.ensures.columns ∙ c.loop-i.invariant.columns;
    }

pub returns : goal.returns
returns c =
    c.in_ok-text.ensures (column_count (is_some c.args.labels)) _ c.loop-i.invariant.lines
    ∙ (λ i. table_text (c.loop-i.invariant.columns i) (all_lines c.args.rows.now c.args.labels c.loop-i.i c.requires c.loop-i-test.false i))
