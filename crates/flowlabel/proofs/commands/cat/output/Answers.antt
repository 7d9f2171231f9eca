use Rattle.std.proofs.Common.{arith, refl}
use Rattle.flowlabel.proofs.PrintoutLemmas.{faulty, is_printout}
use Rattle.flow_files.proofs.ReadLemmas.{no_memory_left}
use Rattle.flowlabel.proofs.commands.cat.output.Goals as goal

pub returns-in_err-labels : goal.returns-in_err-labels
returns-in_err-labels g c = faulty _ c.in_err-labels.ensures.read (omega arith) (λ l fault (out, runs, is). cc) c.from_residual.ensures.1

pub returns-in_err-runs : goal.returns-in_err-runs
returns-in_err-runs g c = no_memory_left c.in_ok-labels.ensures.read (omega arith) c.from_residual-in_err-runs.ensures.1

pub returns : goal.returns
returns g c =
    is_printout _ c.in_ok-labels.ensures.read (omega arith) (λ l same. (c.in_ok-runs.ensures.0, λ out is. rw same (out, c.in_ok-runs.ensures.1 out is, refl)))
