use Rattle.std.proofs.Common.{◌∙◌, Ok, ap, arith, sym}
use Rattle.flowlabel.specs.Output.{label_text}
use Rattle.flowlabel.proofs.PrintoutLemmas.{faulty, is_printout}
use Rattle.flow_files.proofs.ReadLemmas.{no_memory_left}
use Rattle.flowlabel.proofs.commands.label.output.Goals as goal

pub returns-in_err-read : goal.returns-in_err-read
returns-in_err-read g c = faulty _ c.in_err-read.ensures.read (omega arith) (λ l fault is. cc) c.from_residual.ensures.1

pub returns-in_err-line_of : goal.returns-in_err-line_of
returns-in_err-line_of g c = no_memory_left c.in_ok-read.ensures.read (omega arith) c.from_residual-in_err-line_of.ensures.1

pub returns : goal.returns
returns g c =
    is_printout _ c.in_ok-read.ensures.read (omega arith)
    (λ l same. (tt, λ out is. ap Ok (is ∙ c.in_ok-line_of.ensures ∙ ap (label_text (c.args.addr.version, c.args.addr.value)) (sym same))))
