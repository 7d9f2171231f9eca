use Rattle.flow_uniq.proofs.RowGroups.{groups-rows, rows-grouped}
use Rattle.flow_uniq.proofs.laws.rows_are_grouped_by_fields.Goals as goal

pub returns-clause-grouped : goal.returns-clause-grouped
returns-clause-grouped c fields label sorted rows = rows-grouped label fields rows sorted

pub returns-clause-keys : goal.returns-clause-keys
returns-clause-keys c fields label sorted rows = groups-rows label fields rows sorted
