use Rattle.std.specs.Prelude.{◌≡◌, false, true, List, [], ◌∷◌, ◌++◌, Some, codes, map}
use Rattle.std.specs.Borrow.{Bor}
use Rattle.std.specs.List.{fold}
use Rattle.clap.specs.declared.builder.action.ArgAction.TheVariants.{Append, SetTrue}
use Rattle.clap.specs.declared.builder.arg.Arg.{Arg}
use Rattle.clap.specs.declared.builder.command.Command.{Command}
use Rattle.clap.specs.declared.builder.command.Command.TheViews.{out-Command}
use Rattle.clap.specs.Words.{App, Rule, Text, app_of, new_app, new_rule, rule_of, with_rule, with_subcommand}
use Rattle.flow_filter.specs.Options.{name_of}
use Rattle.flow_filter.specs.declared.option.TheConstants.{ALL_OPTIONS}
use Rattle.flow_files.specs.declared.definition.Argument.{Argument}
use Rattle.flow_files.specs.declared.definition.Argument.TheVariants.{Flag, Needed, Optional, Word, Words}
use Rattle.flow_files.specs.declared.definition.Subcommand.{Subcommand}

-- The command line as clap reads its definition: a program of subcommands with their options and words.

-- the rules of the option `--name VALUE`, of a required one, of the flag `--name`, and of the required word `VALUE`
abbrev pub option_rule : Text → Rule
option_rule name = record (new_rule name) { long = Some name; value_names = 1 }

abbrev pub needed_rule : Text → Rule
needed_rule name = record (new_rule name) { long = Some name; value_names = 1; required = true }

abbrev pub flag_rule : Text → Rule
flag_rule name = record (new_rule name) { long = Some name; action = Some SetTrue }

abbrev pub word_rule : Text → Rule
word_rule name = record (new_rule name) { value_names = 1; required = true }

-- the rule of one or more such words
abbrev pub words_rule : Text → Rule
words_rule name = record (word_rule name) { action = Some Append }

-- a command without subcommands, by its name and its arguments
abbrev pub leaf : Text → List Rule → App
leaf name = fold with_rule (new_app name)

-- the rules of `--pmap FILE` and `--list FILE`, and of these and the filters
abbrev pub source_rules : List Rule
source_rules = option_rule (codes "pmap") ∷ option_rule (codes "list") ∷ []

abbrev pub report_rules : List Rule
report_rules = source_rules ++ map (λ o. option_rule (name_of o)) ALL_OPTIONS

-- the program of a command: it has a version, one of its subcommands is required, and `help` isn't one of them
abbrev pub as_program : App → App
as_program app = record app {
  top = record app.top {
    has_version = true;
    subcommand_required = true;
    disable_help_subcommand = true;
  };
}

-- a program with these subcommands, each with its arguments
abbrev pub with_leaves : App → List App → App
with_leaves = fold (λ app sub. with_subcommand app sub.top)

-- Below: only contracts of parts and proofs use these; no promise of the program rests on them.

-- the rule of an argument in the program
abbrev pub rule_for : Argument → Rule
rule_for (Optional name value heading help) = option_rule name.now
rule_for (Needed name value heading help) = needed_rule name.now
rule_for (Flag name help) = flag_rule name.now
rule_for (Word name value help) = word_rule name.now
rule_for (Words name value help) = words_rule name.now

abbrev pub with_argument : App → Argument → App
with_argument app argument = with_rule app (rule_for argument)

abbrev pub with_arguments : App → Bor (List Argument) → App
with_arguments app arguments = fold with_argument app arguments.now

-- a subcommand in the program, and a program with it
abbrev pub app_for : Subcommand → App
app_for sub = fold with_arguments (new_app sub.name.now) sub.arguments.now

abbrev pub with_sub : App → Subcommand → App
with_sub app sub = with_subcommand app (app_for sub).top

-- clap reads the argument by this rule, and for its own command alone
abbrev pub IsArgument : Rule → Arg → Type 0
IsArgument rule arg = (rule_of arg ≡ rule) × (arg.global ≡ false)

-- clap reads the command as this one, and the command has no arguments for others
abbrev pub IsCommand : App → Command → Type 0
IsCommand app command = (app_of command ≡ app) × ((out-Command command).has_globals ≡ false)
