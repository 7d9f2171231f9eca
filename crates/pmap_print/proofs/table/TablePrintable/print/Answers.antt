use Rattle.std.proofs.Common.{◌∙◌, ap, is_some, sym, true}
use Rattle.std.proofs.lemmas.List.{append_cancel_left}
use Rattle.pmap_print.specs.Table.{table_text}
use Rattle.pmap_print.proofs.table.TablePrintable.print.Goals as goal

pub returns-in-Some : goal.returns-in-Some
returns-in-Some g c =
    let (count, lines, is) = c.requires in
    let padded = is.padded c.in-Some.columns c.in-Some.is in
    let printed = c.in_ok-print_lines.ensures count lines padded.1 (c.as_slice-text.ensures.value ∙ padded.0) in (
      table_text true lines,
      λ count' lines' is'.
          let padded' = is'.padded c.in-Some.columns c.in-Some.is in
          append_cancel_left (g.S.Sink.sink c.args.out.now).printed (table_text true lines) (table_text true lines')
          (sym printed.0 ∙ (c.in_ok-print_lines.ensures count' lines' padded'.1 (c.as_slice-text.ensures.value ∙ padded'.0)).0)
          ∙ ap (λ b. table_text b lines') (sym (ap is_some c.in-Some.is)),
      printed,
    )
