use Rattle.std.proofs.Common.{◌≡◌, ◌+◌, ◌*◌, ◌-◌, ◌<◌, ◌≤◌, length}
use Rattle.prefix_keys.specs.Block.{width_of}
use Rattle.label_trie.specs.Parts.{IsMet}
use Rattle.label_trie.proofs.trie.Trie.node.Given as goal

abbrev pub invariant-loop-place : goal.invariant-loop-place
invariant-loop-place l = record {
  version : l.place.block.version ≡ l.self.version;
  nodes : l.place.nodes ≡ l.self.nodes;
  reached : l.place.number ≤ l.number;
  below : l.number + 1 < l.place.number + 2 * length l.place.leaves;
  met : IsMet l.self l.place;
}

abbrev pub decreases-loop-place : goal.decreases-loop-place
decreases-loop-place l = width_of l.place.block.version - l.place.block.len
