use Rattle.std.specs.Prelude.{◌∷◌, [], ◌++◌, codes, map}
use Rattle.clap.specs.Words.{App, new_app}
use Rattle.flow_rows.specs.Numbers.{about}
use Rattle.flow_rows.specs.declared.number.TheConstants.{MORE_NUMBERS}
use Rattle.flow_files.specs.Definition.{as_program, flag_rule, leaf, option_rule, report_rules, with_leaves, words_rule}

-- The command line as clap reads its definition.

-- the program with its subcommands and their arguments
unfoldable pub many_app : App
many_app = with_leaves (as_program (new_app (codes "flowlabel-many"))) (
    leaf (codes "sum") (option_rule (codes "by") ∷ option_rule (codes "fields") ∷ report_rules
    ++ map (λ n. option_rule (about n).0) MORE_NUMBERS
    ++ flag_rule (codes "allow-skipped") ∷ flag_rule (codes "columns")
    ∷ words_rule (codes "files") ∷ [])
    ∷ leaf (codes "messages") (words_rule (codes "files") ∷ []) ∷ [])
