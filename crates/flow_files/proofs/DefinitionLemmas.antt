-- How clap reads a command with one more argument, one more list of arguments, and one more subcommand.
use Rattle.std.proofs.Common.{◌∙◌, ℕ, ◌+◌, ◌<◌, ◌≤◌, List, get_or, length, take}
use Rattle.std.specs.Borrow.{Bor}
use Rattle.std.specs.List.{fold}
use Rattle.std.proofs.lemmas.Bool.{or_from}
use Rattle.std.proofs.lemmas.List.{take_all}
use Rattle.std.proofs.lemmas.List.Sums.{fold_more}
use Rattle.clap.specs.Words.{AddsArg, AddsSubcommand, App, with_rule, with_subcommand}
use Rattle.clap.specs.declared.builder.arg.Arg.{Arg}
use Rattle.clap.specs.declared.builder.command.Command.{Command}
use Rattle.flow_files.specs.Definition.{IsArgument, IsCommand, app_for, rule_for, with_argument, with_arguments, with_sub}
use Rattle.flow_files.specs.declared.definition.Argument.{Argument}
use Rattle.flow_files.specs.declared.definition.Subcommand.{Subcommand}

pub one_more : (app : App) (old new : Command) (arguments : List Argument) (k : ℕ) (d : Argument) (arg : Arg) → k < length arguments →
    IsCommand (fold with_argument app (take k arguments)) old → IsArgument (rule_for (get_or arguments k d)) arg → AddsArg old arg new →
    IsCommand (fold with_argument app (take (k + 1) arguments)) new
one_more app old new arguments k d arg within (is, local) (has, own) adds =
    rw (fold_more with_argument app arguments k d within)
    (adds.shape own ∙ (λ i. with_rule (is i) (has i)), adds.globals ∙ or_from _ _ local own)

pub one_sub_more : (app : App) (old added new : Command) (subs : List Subcommand) (k : ℕ) (d : Subcommand) → k < length subs →
    IsCommand (fold with_sub app (take k subs)) old → IsCommand (app_for (get_or subs k d)) added → AddsSubcommand old added new →
    IsCommand (fold with_sub app (take (k + 1) subs)) new
one_sub_more app old added new subs k d within (is, local) (has, own) adds =
    rw (fold_more with_sub app subs k d within)
    (adds.shape own ∙ (λ i. with_subcommand (is i) (has i).top), adds.globals ∙ or_from _ _ local own)

pub one_list_more : (app : App) (new : Command) (lists : List (Bor (List Argument))) (k : ℕ) (d : Bor (List Argument)) → k < length lists →
    IsCommand (with_arguments (fold with_arguments app (take k lists)) (get_or lists k d)) new → IsCommand (fold with_arguments app (take (k + 1) lists)) new
one_list_more app new lists k d within is = rw (fold_more with_arguments app lists k d within) is

-- the command has all items
pub all_taken : {A : Type 0} (with : App → A → App) (app : App) (command : Command) (items : List A) (k : ℕ) → length items ≤ k
    → IsCommand (fold with app (take k items)) command → IsCommand (fold with app items) command
all_taken with app command items k all is = rw take_all at is
