use Rattle.std.proofs.Common.{subst}
use Rattle.label_trie.specs.Stored.{IsNodeAt}
use Rattle.label_trie.specs.TrieModel.{TrieModel}
use Rattle.label_trie.proofs.trie.Trie.node_count.Goals as goal

pub returns-clause-root : goal.returns-clause-root
returns-clause-root c = subst (λ (t : TrieModel). IsNodeAt t 0 (record { bits = 0; number = 0; leaves = t.leaves })) c.self.view_is c.self.invariant.root
