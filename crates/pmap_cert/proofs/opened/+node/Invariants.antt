use Rattle.std.proofs.Common.{◌+◌, ◌*◌, length}
use Rattle.pmap_cert.specs.Node.{first_node, node_lines}
use Rattle.pmap_cert.proofs.opened.+node.Given as goal

-- the nodes below a node have fewer lines
abbrev pub decreases-push_chain : goal.decreases-push_chain
decreases-push_chain g l = 2 * length (node_lines (first_node l.at.now)) + 1

abbrev pub decreases-push_node : goal.decreases-push_node
decreases-push_node g l = 2 * length (node_lines (first_node l.at.now))
