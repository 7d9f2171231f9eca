use Rattle.std.proofs.Common.{◌≡◌, ◌∙◌, ◌++◌, Bool, false, true, [], ap, refl, length, subst, sym}
use Rattle.std.specs.Option.{ForSome}
use Rattle.pmap_print.specs.Table.{AreWide, Text, header_text}
use Rattle.pmap_print.specs.Reports.{column_count, title_line}
use Rattle.pmap_print.proofs.TableLines.{header_fits, header_printed}
use Rattle.pmap_print.proofs.table.Table.of_rows.Goals as goal
use Rattle.pmap_print.proofs.table.Table.of_rows.Goals.{In_ok-print_header, then-labelled, else-labelled}

length-title : (labelled : Bool) → length (title_line labelled) ≡ column_count labelled
length-title true = refl
length-title false = refl

module _ (c : In_ok-print_header) where
  count : c.if-labelled.count ≡ column_count c.args.labelled
  count = elim c.if-labelled.branch [
    | then-labelled w ↦ w.count-is ∙ ap column_count (sym w.if-labelled.true)
    | else-labelled w ↦ w.count-is ∙ ap column_count (sym w.if-labelled.false)
  ]

  wide : ForSome c.in_ok-table.table.columns (AreWide (column_count c.args.labelled) [])
  wide = subst (λ n. ForSome c.in_ok-table.table.columns (AreWide n [])) count c.in_ok-table.ensures.wide

  text : c.print_header.new.out.items ≡ header_text c.args.columns (title_line c.args.labelled)
  text = c.in_ok-print_header.ensures ∙ ap (λ (l : Text). l ++ header_text c.args.columns (title_line c.args.labelled)) c.in_ok-table.ensures.text

pub end_line-requires-clause-line : goal.end_line-requires-clause-line
end_line-requires-clause-line c =
    let s = (goal.at.end_line-requires-clause-line c).In_ok-print_header in
    header_fits (column_count c.args.labelled) (title_line c.args.labelled) c.in_ok-table.table.columns c.print_header.new.out.items c.args.columns
    (wide s) (length-title c.args.labelled) c.in_ok-table.ensures.columns (text s)

pub returns-clause-header : goal.returns-clause-header
returns-clause-header c =
    let s = (goal.at.returns-clause-header c).In_ok-print_header in
    header_printed (column_count c.args.labelled) (title_line c.args.labelled) c.in_ok-table.table.columns c.print_header.new.out.items c.args.columns
    (wide s) (length-title c.args.labelled) c.in_ok-table.ensures.columns (text s) c.end_line.new.self c.end_line.ensures.text c.end_line.ensures.columns
    c.end_line.ensures.wide
