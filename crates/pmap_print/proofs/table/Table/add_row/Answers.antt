use Rattle.std.proofs.Common.{ap, arith, is_some, not, option_map, refl, sym, true, ◌++◌, ◌≡◌, ◌∙◌}
use Rattle.std.proofs.lemmas.Result.{on_err_weaker, on_ok_weaker}
use Rattle.pmap_print.specs.Table.{Line, added_line, has_columns}
use Rattle.pmap_print.specs.Reports.{column_count, label_texts, row_line}
use Rattle.pmap_print.proofs.TableLines.{fits_columns, has_fields, length-row_line, line_printed, plain_printed}
use Rattle.pmap_print.proofs.table.Table.add_row.Goals as goal
use Rattle.pmap_print.proofs.table.Table.add_row.Goals.{In_ok-print_row}

pub returns-then-is_none-clause-line : goal.returns-then-is_none-clause-line
returns-then-is_none-clause-line c =
    on_ok_weaker c.print_row.result
    (λ text lines is. plain_printed (column_count (is_some c.args.labels)) lines (row_line c.args.row.now (option_map label_texts c.args.labels))
    c.args.self.now _ is (has_fields c.args.row.now c.args.labels) (c.is_none.ensures ∙ ap not c.if-is_none.true) refl text)
    c.print_row.ensures.ok

pub returns-then-is_none-clause-err : goal.returns-then-is_none-clause-err
returns-then-is_none-clause-err c = on_err_weaker c.print_row.result (λ text. (text, refl)) c.print_row.ensures.err

module _ (c : In_ok-print_row) where
  abbrev line : Line
  line = row_line c.args.row.now (option_map label_texts c.args.labels)

  columns : true ≡ has_columns c.args.self.now
  columns = sym (c.is_none.ensures ∙ ap not c.if-is_none.false)

  text : c.print_row-2.new.out.items ≡ c.args.self.now.text.items ++ added_line (has_columns c.args.self.now) line
  text = c.in_ok-print_row.ensures.ok ∙ ap (λ b. c.args.self.now.text.items ++ added_line b line) columns

pub end_line-requires-clause-line : goal.end_line-requires-clause-line
end_line-requires-clause-line c =
    let s = (goal.at.end_line-requires-clause-line c).In_ok-print_row in
    fits_columns (column_count (is_some c.args.labels)) c.requires.0 (line s) c.args.self.now c.print_row-2.new.out.items c.len-begin.result c.requires.1
    (length-row_line c.args.row.now c.args.labels) (omega (arith, c.len-begin.ensures, c.args.self.now.text.ok)) (text s)

pub returns-clause-line : goal.returns-clause-line
returns-clause-line c = λ lines is.
    let s = (goal.at.returns-clause-line c).In_ok-print_row in
    line_printed (column_count (is_some c.args.labels)) lines (line s) c.args.self.now c.print_row-2.new.out.items c.len-begin.result is
    (length-row_line c.args.row.now c.args.labels) (omega (arith, c.len-begin.ensures, c.args.self.now.text.ok)) (text s) c.end_line.new.self (has_fields c.args.row.now c.args.labels)
    c.end_line.ensures.text c.end_line.ensures.columns c.end_line.ensures.wide
