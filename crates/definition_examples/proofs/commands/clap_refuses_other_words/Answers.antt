-- Clap's rules and the program's definition are computed on the words.
use Rattle.std.proofs.Common.{refl}
use Rattle.clap.proofs.OnLiterals.{clap_on_literals}
use Rattle.flowlabel.specs.Definition.{flowlabel_app}
use Rattle.definition_examples.specs.Commands.{opened}
use Rattle.definition_examples.proofs.commands.clap_refuses_other_words.Goals as goal

pub returns-clause-no_command : goal.returns-clause-no_command
unfolding flowlabel_app clap_on_literals opened
returns-clause-no_command c = refl

pub returns-clause-help_is_an_option : goal.returns-clause-help_is_an_option
unfolding flowlabel_app clap_on_literals opened
returns-clause-help_is_an_option c = refl

pub returns-clause-another_command : goal.returns-clause-another_command
unfolding flowlabel_app clap_on_literals opened
returns-clause-another_command c = refl

pub returns-clause-another_option : goal.returns-clause-another_option
unfolding flowlabel_app clap_on_literals opened
returns-clause-another_option c = refl

pub returns-clause-an_option_of_flowlabel_many : goal.returns-clause-an_option_of_flowlabel_many
unfolding flowlabel_app clap_on_literals opened
returns-clause-an_option_of_flowlabel_many c = refl

pub returns-clause-no_address : goal.returns-clause-no_address
unfolding flowlabel_app clap_on_literals opened
returns-clause-no_address c = refl

pub returns-clause-two_addresses : goal.returns-clause-two_addresses
unfolding flowlabel_app clap_on_literals opened
returns-clause-two_addresses c = refl

pub returns-clause-no_file_for_info : goal.returns-clause-no_file_for_info
unfolding flowlabel_app clap_on_literals opened
returns-clause-no_file_for_info c = refl

pub returns-clause-no_file_for_rows : goal.returns-clause-no_file_for_rows
unfolding flowlabel_app clap_on_literals opened
returns-clause-no_file_for_rows c = refl

pub returns-clause-no_file_for_uniq : goal.returns-clause-no_file_for_uniq
unfolding flowlabel_app clap_on_literals opened
returns-clause-no_file_for_uniq c = refl

pub returns-clause-no_fields : goal.returns-clause-no_fields
unfolding flowlabel_app clap_on_literals opened
returns-clause-no_fields c = refl

pub returns-clause-no_map_for_shrink : goal.returns-clause-no_map_for_shrink
unfolding flowlabel_app clap_on_literals opened
returns-clause-no_map_for_shrink c = refl

pub returns-clause-no_map_for_check : goal.returns-clause-no_map_for_check
unfolding flowlabel_app clap_on_literals opened
returns-clause-no_map_for_check c = refl

pub returns-clause-no_list_for_check : goal.returns-clause-no_list_for_check
unfolding flowlabel_app clap_on_literals opened
returns-clause-no_list_for_check c = refl

pub returns-clause-no_certificate_for_check : goal.returns-clause-no_certificate_for_check
unfolding flowlabel_app clap_on_literals opened
returns-clause-no_certificate_for_check c = refl

pub returns-clause-no_certificate_for_recert : goal.returns-clause-no_certificate_for_recert
unfolding flowlabel_app clap_on_literals opened
returns-clause-no_certificate_for_recert c = refl

pub returns-clause-rows_sorted : goal.returns-clause-rows_sorted
unfolding flowlabel_app clap_on_literals opened
returns-clause-rows_sorted c = refl

pub returns-clause-a_list_to_shrink : goal.returns-clause-a_list_to_shrink
unfolding flowlabel_app clap_on_literals opened
returns-clause-a_list_to_shrink c = refl

pub returns-clause-an_option_twice : goal.returns-clause-an_option_twice
unfolding flowlabel_app clap_on_literals opened
returns-clause-an_option_twice c = refl

pub returns-clause-a_word_after_cat : goal.returns-clause-a_word_after_cat
unfolding flowlabel_app clap_on_literals opened
returns-clause-a_word_after_cat c = refl

pub returns-clause-the_version : goal.returns-clause-the_version
unfolding flowlabel_app clap_on_literals opened
returns-clause-the_version c = refl

pub returns-clause-help : goal.returns-clause-help
unfolding flowlabel_app clap_on_literals opened
returns-clause-help c = refl

pub returns-clause-help_for_a_command : goal.returns-clause-help_for_a_command
unfolding flowlabel_app clap_on_literals opened
returns-clause-help_for_a_command c = refl
