use Rattle.ipfix_read.proofs.Joining.{calls_join_file, calls_start}
use Rattle.ipfix_read.proofs.laws.calls_join_file.Goals as goal

pub returns-clause-start : goal.returns-clause-start
returns-clause-start c = calls_start

pub returns-clause-join : goal.returns-clause-join
returns-clause-join c = calls_join_file
