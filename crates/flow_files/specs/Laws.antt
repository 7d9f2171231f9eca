use Rattle.std.specs.Prelude.{◌≡◌, ◌++◌, List, [], Result, map}
use Rattle.std.specs.List.{fold}
use Rattle.clap.specs.Words.{App, Row, fault_of}
use Rattle.flow_files.specs.Answer.{AreAnswered, UsageFault}
use Rattle.flow_files.specs.Definition.{app_for, report_rules, rule_for, source_rules, with_leaves, with_sub}
use Rattle.flow_files.specs.Sources.{Text}
use Rattle.flow_files.specs.declared.definition.Argument.{Argument}
use Rattle.flow_files.specs.declared.definition.Subcommand.{Subcommand}

-- Laws about the definitions.

-- these are the arguments for the source of labels and for filters
pub record AreShared (labels filters : List Argument) : Type 0 where
  pub sources : map rule_for labels ≡ source_rules
  pub reports : map rule_for (labels ++ filters) ≡ report_rules

-- a program has its subcommands one by one
abbrev pub SubcommandsAreAdded : Type 0
SubcommandsAreAdded = (app : App) (subs : List Subcommand)
    → with_leaves app (map app_for subs) ≡ fold with_sub app subs

-- clap finds no fault in words that have an answer
abbrev pub AnsweredWordsAreTaken : Type 0
AnsweredWordsAreTaken = (app : App) (answer_of : Text × List Row → Result Text UsageFault)
    (words : List Text) (answer : Result Text UsageFault)
    → AreAnswered app answer_of words answer → fault_of app words ≡ []
