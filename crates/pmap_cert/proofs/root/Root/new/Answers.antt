use Rattle.std.proofs.Common.{ap}
use Rattle.pmap_cert.specs.Node.{first_node}
use Rattle.pmap_cert.proofs.NodeWalk.{root-of}
use Rattle.pmap_cert.proofs.root.Root.new.Goals as goal

pub returns : goal.returns
returns c = λ node is. ap first_node (root-of c.args.nodes node is)
