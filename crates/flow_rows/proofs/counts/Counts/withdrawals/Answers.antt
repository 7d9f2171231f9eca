use Rattle.std.proofs.iter.Serving.{serving}
use Rattle.flow_rows.proofs.counts.Counts.withdrawals.Goals as goal

pub returns : goal.returns
returns c = grind serving
