-- Clap's rules and the program's definition are computed on the words.
use Rattle.std.proofs.Common.{refl}
use Rattle.clap.proofs.OnLiterals.{clap_on_literals}
use Rattle.flowlabel.specs.Definition.{flowlabel_app}
use Rattle.definition_examples.specs.Commands.{opened}
use Rattle.definition_examples.proofs.commands.a_command_line_has_a_usage_fault.Goals as goal

pub returns-clause-no_labels : goal.returns-clause-no_labels
unfolding flowlabel_app clap_on_literals opened
returns-clause-no_labels c = (refl, refl)

pub returns-clause-two_sources : goal.returns-clause-two_sources
unfolding flowlabel_app clap_on_literals opened
returns-clause-two_sources c = (refl, refl)

pub returns-clause-no_address : goal.returns-clause-no_address
unfolding flowlabel_app clap_on_literals opened
returns-clause-no_address c = (refl, refl)

pub returns-clause-no_labels_for_cat : goal.returns-clause-no_labels_for_cat
unfolding flowlabel_app clap_on_literals opened
returns-clause-no_labels_for_cat c = (refl, refl)

pub returns-clause-two_sources_of_cat : goal.returns-clause-two_sources_of_cat
unfolding flowlabel_app clap_on_literals opened
returns-clause-two_sources_of_cat c = (refl, refl)

pub returns-clause-two_sources_of_rows : goal.returns-clause-two_sources_of_rows
unfolding flowlabel_app clap_on_literals opened
returns-clause-two_sources_of_rows c = (refl, refl)

pub returns-clause-a_malformed_option : goal.returns-clause-a_malformed_option
unfolding flowlabel_app clap_on_literals opened
returns-clause-a_malformed_option c = (refl, refl)

pub returns-clause-a_source_label_without_a_map : goal.returns-clause-a_source_label_without_a_map
unfolding flowlabel_app clap_on_literals opened
returns-clause-a_source_label_without_a_map c = (refl, refl)

pub returns-clause-a_destination_label_without_a_map : goal.returns-clause-a_destination_label_without_a_map
unfolding flowlabel_app clap_on_literals opened
returns-clause-a_destination_label_without_a_map c = (refl, refl)

pub returns-clause-any_label_without_a_map : goal.returns-clause-any_label_without_a_map
unfolding flowlabel_app clap_on_literals opened
returns-clause-any_label_without_a_map c = (refl, refl)

pub returns-clause-two_sources_of_uniq : goal.returns-clause-two_sources_of_uniq
unfolding flowlabel_app clap_on_literals opened
returns-clause-two_sources_of_uniq c = (refl, refl)

pub returns-clause-a_malformed_option_before_a_field : goal.returns-clause-a_malformed_option_before_a_field
unfolding flowlabel_app clap_on_literals opened
returns-clause-a_malformed_option_before_a_field c = (refl, refl)

pub returns-clause-an_unknown_field : goal.returns-clause-an_unknown_field
unfolding flowlabel_app clap_on_literals opened
returns-clause-an_unknown_field c = (refl, refl)

pub returns-clause-a_field_of_flowlabel_many : goal.returns-clause-a_field_of_flowlabel_many
unfolding flowlabel_app clap_on_literals opened
returns-clause-a_field_of_flowlabel_many c = (refl, refl)

pub returns-clause-a_field_twice : goal.returns-clause-a_field_twice
unfolding flowlabel_app clap_on_literals opened
returns-clause-a_field_twice c = (refl, refl)

pub returns-clause-a_field_of_source_labels : goal.returns-clause-a_field_of_source_labels
unfolding flowlabel_app clap_on_literals opened
returns-clause-a_field_of_source_labels c = (refl, refl)

pub returns-clause-a_field_of_destination_labels : goal.returns-clause-a_field_of_destination_labels
unfolding flowlabel_app clap_on_literals opened
returns-clause-a_field_of_destination_labels c = (refl, refl)

pub returns-clause-uniq_by_a_label_without_a_map : goal.returns-clause-uniq_by_a_label_without_a_map
unfolding flowlabel_app clap_on_literals opened
returns-clause-uniq_by_a_label_without_a_map c = (refl, refl)

pub returns-clause-compact_alone : goal.returns-clause-compact_alone
unfolding flowlabel_app clap_on_literals opened
returns-clause-compact_alone c = (refl, refl)
