use Rattle.std.proofs.Common.{ap}
use Rattle.std.specs.Prelude.{codes}
use Rattle.std.proofs.lemmas.Result.{IfOk-weaker}
use Rattle.clap.specs.Words.{App, new_app}
use Rattle.flow_files.specs.Definition.{as_program}
use Rattle.flow_many.specs.Definition.{many_app}
use Rattle.flow_many.proofs.definition.definition.Goals as goal

pub returns-clause-app : goal.returns-clause-app
unfolding many_app
returns-clause-app c = c.with_subcommands.ensures (as_program (new_app (codes "flowlabel-many"))) c.in_ok-program.ensures

pub returns-clause-required : goal.returns-clause-required
unfolding many_app
returns-clause-required c =
    IfOk-weaker c.with_subcommands.result _ _ (λ new is. ap (λ (a : App). a.top.subcommand_required) is.0) (returns-clause-app c)
