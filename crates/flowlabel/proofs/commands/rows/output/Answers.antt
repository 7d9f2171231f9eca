use Rattle.std.proofs.Common.{◌∙◌, ◌∷◌, [], Bool, Ok, ap, arith, refl, subst, sym}
use Rattle.pmap_print.specs.Reports.{column_count, title_line}
use Rattle.pmap_print.specs.Table.{IsTable, table_text}
use Rattle.flowlabel.specs.Output.{labelled_row_lines}
use Rattle.flow_files.specs.Reports.{passing_rows}
use Rattle.flowlabel.proofs.PrintoutLemmas.{faulty, is_printout}
use Rattle.flow_files.proofs.ReadLemmas.{no_memory_left, none_read}
use Rattle.flowlabel.proofs.commands.rows.output.Goals as goal

pub returns-in_err-of_rows : goal.returns-in_err-of_rows
returns-in_err-of_rows g c flows = no_memory_left (none_read 0 c.args.files.now c.requires) (omega arith) c.from_residual.ensures.1

pub read_rows-requires : goal.read_rows-requires
read_rows-requires g c = record {
  fresh = c.requires;
  none = λ labels same.
      record {
        padded = refl;
        lines =
            subst (λ (b : Bool). IsTable (column_count b) (title_line b ∷ []) c.in_ok-of_rows.field-0) (c.is_some.ensures ∙ sym same) c.in_ok-of_rows.ensures.header;
      };
}

pub returns-in_err-lines : goal.returns-in_err-lines
returns-in_err-lines g c flows = faulty _ c.in_err-lines.ensures (omega arith) (λ read fault is. cc) c.from_residual-in_err-lines.ensures.1

pub returns : goal.returns
returns g c flows =
    is_printout _ c.in_ok-lines.ensures (omega arith) (λ read has. (
      (_, _, has.lines),
      λ out is.
          ap Ok (is _ _ has.lines
          ∙ ap (λ b. table_text b (labelled_row_lines read.0 (passing_rows c.args.filter.now read.0 read.1))) (has.padded ∙ c.in_ok-of_rows.ensures.columns)),
    ))
