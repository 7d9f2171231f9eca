use Rattle.flow_files.proofs.ReadLemmas.{are_fresh}
use Rattle.flow_many.proofs.commands.run.Goals as goal

pub sum-requires-clause-fresh : goal.sum-requires-clause-fresh
sum-requires-clause-fresh g c = are_fresh g.O.Reader.Input.input c.args.labels.now c.requires.unread c.requires.readers
