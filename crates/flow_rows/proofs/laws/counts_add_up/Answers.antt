use Rattle.flow_rows.proofs.Adding.{counts-append, counts-each, messages-rows}
use Rattle.flow_rows.proofs.laws.counts_add_up.Goals as goal

pub returns-clause-rows : goal.returns-clause-rows
returns-clause-rows c = messages-rows

pub returns-clause-counts : goal.returns-clause-counts
returns-clause-counts c = counts-append

pub returns-clause-each : goal.returns-clause-each
returns-clause-each c = counts-each
