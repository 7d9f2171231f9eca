use Rattle.pmap_minimise.proofs.Claimed.{AreClaimed}
use Rattle.pmap_minimise.proofs.claiming.claimed.Given as goal

abbrev pub invariant-loop-number : goal.invariant-loop-number
invariant-loop-number l = AreClaimed l.trie l.number l.nodes
