use Rattle.std.proofs.Common.{◌∙◌, ap}
use Rattle.clap.specs.Simple.{app_of_fields}
use Rattle.flow_files.specs.Definition.{with_arguments}
use Rattle.flow_files.proofs.DefinitionLemmas.{all_taken, one_list_more}
use Rattle.flow_files.proofs.definition.command_of.Goals as goal

pub loop-arguments-init : goal.loop-arguments-init
loop-arguments-init c =
    let titled = ap app_of_fields c.before_help.ensures ∙ c.new.ensures.app in
    let about = ap app_of_fields c.about.ensures ∙ titled in
    let used = ap app_of_fields c.override_usage.ensures ∙ about in (
      ap app_of_fields c.after_help-command.ensures ∙ used,
      search (c.after_help-command.ensures, c.override_usage.ensures, c.about.ensures, c.before_help.ensures, c.new.ensures.local),
    )

pub loop-arguments-preserved : goal.loop-arguments-preserved
loop-arguments-preserved c =
    one_list_more _ _ c.args.sub.now.arguments.now c.loop-arguments.arguments-index _ c.loop-arguments-test.true (c.in_ok-command.ensures _ c.loop-arguments.invariant)

pub returns : goal.returns
returns c = all_taken with_arguments _ _ c.args.sub.now.arguments.now c.loop-arguments.arguments-index c.loop-arguments-test.false c.loop-arguments.invariant
