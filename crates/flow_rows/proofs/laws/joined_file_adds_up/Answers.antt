use Rattle.flow_rows.proofs.Adding.{joined_file_adds_up, none_skipped}
use Rattle.flow_rows.proofs.laws.joined_file_adds_up.Goals as goal

pub returns-clause-joined : goal.returns-clause-joined
returns-clause-joined c = joined_file_adds_up

pub returns-clause-alone : goal.returns-clause-alone
returns-clause-alone c = none_skipped
