use Rattle.pmap_cert.proofs.NodeWalk.{tree-lines}
use Rattle.pmap_cert.proofs.root.Root.nodes.Goals as goal

pub returns : goal.returns
returns c = tree-lines c.self.inside.nodes c.args.self.now c.self.invariant c.self.view_is
