use Rattle.std.proofs.Common.{take}
use Rattle.std.specs.List.{fold}
use Rattle.clap.specs.Words.{App}
use Rattle.flow_files.specs.Definition.{IsCommand, with_sub}
use Rattle.flow_files.proofs.definition.with_subcommands.Given as goal

-- the command has the subcommands so far
abbrev pub invariant-loop-sub : goal.invariant-loop-sub
invariant-loop-sub l =
    (app : App) → IsCommand app l.initial.command → IsCommand (fold with_sub app (take l.sub-index l.subcommands)) l.command
