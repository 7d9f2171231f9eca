use Rattle.std.specs.Prelude.{List, [], ◌∷◌, ◌++◌, codes}
use Rattle.clap.specs.Words.{App, Rule, Text, new_app}
use Rattle.flow_files.specs.Definition.{flag_rule, leaf, needed_rule, as_program}
use Rattle.flow_files.specs.Definition.{report_rules, source_rules, with_leaves, word_rule}

-- The command line as clap reads its definition: each subcommand with its options and words.

abbrev pub program_name : Text
program_name = codes "flowlabel"

-- the rules of `[--columns] FILE`
abbrev pub table_rules : List Rule
table_rules = flag_rule (codes "columns") ∷ word_rule (codes "flows") ∷ []

-- the program with its subcommands and their arguments
unfoldable pub flowlabel_app : App
flowlabel_app = with_leaves (as_program (new_app program_name)) (
    leaf (codes "label") (source_rules ++ word_rule (codes "address") ∷ [])
    ∷ leaf (codes "info") (word_rule (codes "flows") ∷ [])
    ∷ leaf (codes "rows") (report_rules ++ table_rules)
    ∷ leaf (codes "uniq") (needed_rule (codes "fields") ∷ report_rules
    ++ flag_rule (codes "sort-output") ∷ table_rules)
    ∷ leaf (codes "cat") source_rules
    ∷ leaf (codes "shrink") (needed_rule (codes "pmap") ∷ flag_rule (codes "certificate")
    ∷ flag_rule (codes "compact") ∷ [])
    ∷ leaf (codes "check") (needed_rule (codes "pmap") ∷ needed_rule (codes "list")
    ∷ needed_rule (codes "cert") ∷ [])
    ∷ leaf (codes "recert") (needed_rule (codes "cert") ∷ []) ∷ [])
