use Rattle.flow_rows.proofs.Adding.{message_counts-each}
use Rattle.flow_rows.proofs.laws.message_counts_add_up.Goals as goal

pub returns : goal.returns
returns c = message_counts-each
