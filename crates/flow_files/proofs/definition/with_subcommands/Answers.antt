use Rattle.flow_files.specs.Definition.{with_sub}
use Rattle.flow_files.proofs.DefinitionLemmas.{all_taken, one_sub_more}
use Rattle.flow_files.proofs.definition.with_subcommands.Goals as goal

pub loop-sub-preserved : goal.loop-sub-preserved
loop-sub-preserved c = λ app is.
    one_sub_more app c.loop-sub.command c.in_ok-command_of.field-0 c.in_ok-command.command c.args.subcommands.now c.loop-sub.sub-index _ c.loop-sub-test.true
    (c.loop-sub.invariant app is) c.in_ok-command_of.ensures c.in_ok-command.ensures

pub returns : goal.returns
returns c = λ app is. all_taken with_sub app _ c.args.subcommands.now c.loop-sub.sub-index c.loop-sub-test.false (c.loop-sub.invariant app is)
