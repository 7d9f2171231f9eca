use Rattle.pmap_cert.proofs.NodeWalk.{root-of, tree-whole}
use Rattle.pmap_cert.proofs.cursor.Cursor.at_root.Goals as goal

pub returns : goal.returns
returns c = root-of c.nodes.result.now c.args.tree.now c.nodes.ensures

pub invariant_of-result : goal.invariant_of-result
invariant_of-result c = tree-whole c.nodes.result.now c.args.tree.now c.nodes.ensures
