use Rattle.flow_files.specs.Definition.{with_argument}
use Rattle.flow_files.proofs.DefinitionLemmas.{all_taken, one_more}
use Rattle.flow_files.proofs.definition.with_arguments.Goals as goal

pub loop-argument-preserved : goal.loop-argument-preserved
loop-argument-preserved c = λ app is.
    one_more app c.loop-argument.command c.in_ok-command.command c.args.arguments.now c.loop-argument.argument-index _ c.argument_of.result c.loop-argument-test.true
    (c.loop-argument.invariant app is) c.argument_of.ensures c.in_ok-command.ensures

pub returns : goal.returns
returns c = λ app is. all_taken with_argument app _ c.args.arguments.now c.loop-argument.argument-index c.loop-argument-test.false (c.loop-argument.invariant app is)
