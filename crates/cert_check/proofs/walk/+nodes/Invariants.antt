use Rattle.std.proofs.Common.{◌+◌, ◌*◌, ◌-◌}
use Rattle.cert_check.proofs.walk.+nodes.Given as goal

-- Halves of a block and ends of paths have more bits than the block. At one block, a node comes before the inner node or
-- the chain that it is.
abbrev pub decreases-check_node : goal.decreases-check_node
decreases-check_node l = 2 * (l.sources.now.limits.width - l.len) + 1

abbrev pub decreases-check_inner : goal.decreases-check_inner
decreases-check_inner l = 2 * (l.sources.now.limits.width - l.len)

abbrev pub decreases-check_chain : goal.decreases-check_chain
decreases-check_chain l = 2 * (l.sources.now.limits.width - l.block.now.len)
