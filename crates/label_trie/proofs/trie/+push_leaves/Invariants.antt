use Rattle.std.proofs.Common.{◌-◌}
use Rattle.prefix_keys.specs.Block.{width_of}
use Rattle.label_trie.proofs.trie.+push_leaves.Given as goal

abbrev pub decreases-push_leaves : goal.decreases-push_leaves
decreases-push_leaves l = width_of l.place.now.block.version - l.place.now.block.len
