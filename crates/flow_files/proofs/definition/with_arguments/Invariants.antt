use Rattle.std.proofs.Common.{take}
use Rattle.std.specs.List.{fold}
use Rattle.clap.specs.Words.{App}
use Rattle.flow_files.specs.Definition.{IsCommand, with_argument}
use Rattle.flow_files.proofs.definition.with_arguments.Given as goal

-- the command has the arguments so far
abbrev pub invariant-loop-argument : goal.invariant-loop-argument
invariant-loop-argument l =
    (app : App) → IsCommand app l.initial.command → IsCommand (fold with_argument app (take l.argument-index l.arguments)) l.command
