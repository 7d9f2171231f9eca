-- Clap's rules and the program's definition are computed on the words.
use Rattle.std.proofs.Common.{refl}
use Rattle.clap.proofs.OnLiterals.{clap_on_literals}
use Rattle.flowlabel.specs.Definition.{flowlabel_app}
use Rattle.definition_examples.specs.Commands.{opened}
use Rattle.definition_examples.proofs.commands.a_command_line_asks_for_a_command.Goals as goal

pub returns-clause-label_by_a_map : goal.returns-clause-label_by_a_map
unfolding flowlabel_app clap_on_literals opened
returns-clause-label_by_a_map c = (refl, refl)

pub returns-clause-label_by_a_list : goal.returns-clause-label_by_a_list
unfolding flowlabel_app clap_on_literals opened
returns-clause-label_by_a_list c = (refl, refl)

pub returns-clause-info : goal.returns-clause-info
unfolding flowlabel_app clap_on_literals opened
returns-clause-info c = (refl, refl)

pub returns-clause-rows : goal.returns-clause-rows
unfolding flowlabel_app clap_on_literals opened
returns-clause-rows c = (refl, refl)

pub returns-clause-rows_with_all_options : goal.returns-clause-rows_with_all_options
unfolding flowlabel_app clap_on_literals opened
returns-clause-rows_with_all_options c = (refl, refl)

pub returns-clause-uniq : goal.returns-clause-uniq
unfolding flowlabel_app clap_on_literals opened
returns-clause-uniq c = (refl, refl)

pub returns-clause-uniq_by_all_fields : goal.returns-clause-uniq_by_all_fields
unfolding flowlabel_app clap_on_literals opened
returns-clause-uniq_by_all_fields c = (refl, refl)

pub returns-clause-uniq_sorted : goal.returns-clause-uniq_sorted
unfolding flowlabel_app clap_on_literals opened
returns-clause-uniq_sorted c = (refl, refl)

pub returns-clause-uniq_in_columns : goal.returns-clause-uniq_in_columns
unfolding flowlabel_app clap_on_literals opened
returns-clause-uniq_in_columns c = (refl, refl)

pub returns-clause-cat : goal.returns-clause-cat
unfolding flowlabel_app clap_on_literals opened
returns-clause-cat c = (refl, refl)

pub returns-clause-shrink : goal.returns-clause-shrink
unfolding flowlabel_app clap_on_literals opened
returns-clause-shrink c = (refl, refl)

pub returns-clause-shrink_to_a_certificate : goal.returns-clause-shrink_to_a_certificate
unfolding flowlabel_app clap_on_literals opened
returns-clause-shrink_to_a_certificate c = (refl, refl)

pub returns-clause-shrink_to_a_compact_certificate : goal.returns-clause-shrink_to_a_compact_certificate
unfolding flowlabel_app clap_on_literals opened
returns-clause-shrink_to_a_compact_certificate c = (refl, refl)

pub returns-clause-check : goal.returns-clause-check
unfolding flowlabel_app clap_on_literals opened
returns-clause-check c = (refl, refl)

pub returns-clause-recert : goal.returns-clause-recert
unfolding flowlabel_app clap_on_literals opened
returns-clause-recert c = (refl, refl)
