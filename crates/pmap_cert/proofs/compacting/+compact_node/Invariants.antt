use Rattle.std.proofs.Common.{◌-◌, length}
use Rattle.pmap_cert.proofs.compacting.+compact_node.Given as goal

abbrev pub decreases-compact_node : goal.decreases-compact_node
decreases-compact_node g l = length l.nodes.now - l.number
