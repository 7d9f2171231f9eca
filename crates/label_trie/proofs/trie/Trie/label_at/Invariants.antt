use Rattle.label_trie.proofs.Lookup.{IsOnWay}
use Rattle.label_trie.proofs.trie.Trie.label_at.Given as goal

abbrev pub invariant-loop-id : goal.invariant-loop-id
invariant-loop-id l = IsOnWay l.self l.addr.value l.number l.bits

abbrev pub decreases-loop-id : goal.decreases-loop-id
decreases-loop-id l = l.bits
