use Rattle.std.proofs.Common.{◌-◌}
use Rattle.prefix_keys.specs.Block.{width_of}
use Rattle.label_trie.proofs.trie.+push_nodes.Given as goal

abbrev pub decreases-push_nodes : goal.decreases-push_nodes
decreases-push_nodes l = width_of l.stretches.now.version - l.window.len
