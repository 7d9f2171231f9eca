use Rattle.std.proofs.Common.{ap}
use Rattle.std.proofs.lemmas.Result.{IfOk-weaker}
use Rattle.clap.specs.Words.{App, new_app}
use Rattle.flow_files.specs.Definition.{as_program}
use Rattle.flowlabel.specs.Definition.{flowlabel_app, program_name}
use Rattle.flowlabel.proofs.definition.definition.Goals as goal

pub returns-clause-app : goal.returns-clause-app
unfolding flowlabel_app
returns-clause-app c = c.with_subcommands.ensures (as_program (new_app program_name)) c.in_ok-program.ensures

pub returns-clause-required : goal.returns-clause-required
unfolding flowlabel_app
returns-clause-required c =
    IfOk-weaker c.with_subcommands.result _ _ (λ new is. ap (λ (a : App). a.top.subcommand_required) is.0) (returns-clause-app c)
