use Rattle.pmap_stretches.proofs.StartLists.{given_order}
use Rattle.pmap_stretches.proofs.stretches.starts.Starts.new.Goals as goal

pub returns-then-are_ascending : goal.returns-then-are_ascending
returns-then-are_ascending c = rw c.none.ensures (given_order c.args.statements.now (c.are_ascending.ensures c.if-are_ascending.true))
