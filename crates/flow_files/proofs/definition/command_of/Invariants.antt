use Rattle.std.proofs.Common.{take}
use Rattle.std.specs.List.{fold}
use Rattle.clap.specs.Words.{new_app}
use Rattle.flow_files.specs.Definition.{IsCommand, with_arguments}
use Rattle.flow_files.proofs.definition.command_of.Given as goal

-- the command has the lists of arguments so far
abbrev pub invariant-loop-arguments : goal.invariant-loop-arguments
invariant-loop-arguments l = IsCommand (fold with_arguments (new_app l.sub.name.now) (take l.arguments-index l.sub.arguments.now)) l.command
