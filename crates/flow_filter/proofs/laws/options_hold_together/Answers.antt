use Rattle.std.proofs.lemmas.List.Sums.{AllPass-from_list_all, list_all-from_AllPass}
use Rattle.label_lookup.specs.Labelling.{label_where}
use Rattle.flow_filter.specs.Condition.{meets_option}
use Rattle.flow_filter.proofs.Together.{passing-together}
use Rattle.flow_filter.proofs.laws.options_hold_together.Goals as goal

pub returns-clause-each : goal.returns-clause-each
returns-clause-each c condition labels row =
    let meets = meets_option (label_where labels) row in (AllPass-from_list_all meets condition, list_all-from_AllPass meets condition)

pub returns-clause-together : goal.returns-clause-together
returns-clause-together c one other labels rows = passing-together labels one other rows
