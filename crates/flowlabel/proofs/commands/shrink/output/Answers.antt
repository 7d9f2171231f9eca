use Rattle.std.proofs.Common.{Ok, ap, arith}
use Rattle.flowlabel.proofs.PrintoutLemmas.{faulty, is_printout}
use Rattle.flow_files.proofs.ReadLemmas.{map_read, no_memory_left}
use Rattle.flowlabel.proofs.commands.shrink.output.Goals as goal

pub returns-in_err-map : goal.returns-in_err-map
returns-in_err-map g c map =
    faulty _ (map_read c.args.files.now c.requires c.in_err-map.ensures) (omega arith) (λ m fault (l, k, pair, is). cc) c.from_residual.ensures.1

pub returns-in_err-printout_of : goal.returns-in_err-printout_of
returns-in_err-printout_of g c map =
    no_memory_left (map_read c.args.files.now c.requires c.in_ok-map.ensures) (omega arith) c.from_residual-in_err-printout_of.ensures.1

pub returns : goal.returns
returns g c map =
    is_printout _ (map_read c.args.files.now c.requires c.in_ok-map.ensures) (omega arith) (λ m same. (
      c.in_ok-printout_of.ensures.0,
      λ out is_text. let (l, k, pair, text) = c.in_ok-printout_of.ensures.1 out is_text in rw same (l, k, pair, ap Ok text),
    ))
