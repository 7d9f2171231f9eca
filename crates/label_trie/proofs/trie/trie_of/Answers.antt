use Rattle.std.proofs.Common.{◌∙◌, ◌++◌, ◌≡◌, List, [], ap, arith, length, subst, sym}
use Rattle.label_trie.specs.Nodes.{AreStored, stored_of}
use Rattle.label_trie.specs.TrieModel.{TrieModel}
use Rattle.label_trie.specs.declared.node.TrieNode.{TrieNode}
use Rattle.label_trie.proofs.Nodes.{all_stored, trie_read, whole_leaves, whole_stored}
use Rattle.label_trie.proofs.trie.trie_of.Goals as goal

pub push_nodes-requires-clause-few : goal.push_nodes-requires-clause-few
push_nodes-requires-clause-few c =
    let s = c.args.stretches.now in
    omega (
      arith,
      c.requires,
      ap length (whole_leaves s c.laws.ensures.every c.whole.result c.whole.ensures.first c.whole.ensures.len),
      ap length c.new-nodes.ensures.items,
    )

-- the nodes that are stored, from those that were appended to an empty list
all_are : (old new all : List TrieNode) (own : List TrieNode → List TrieNode) → old ≡ [] → new ≡ old ++ own old → own [] ≡ all → new ≡ all
all_are old new all own none is same = is ∙ (λ i. none i ++ own (none i)) ∙ same

pub invariant_of-result : goal.invariant_of-result
invariant_of-result c =
    let s = c.args.stretches.now in
    let every = c.laws.ensures.every in
    let items = c.push_nodes.new.nodes.items in
    let are = all_are c.new-nodes.result.items items _ (λ l. stored_of s c.whole.result (length l)) c.new-nodes.ensures.items c.in_ok-push_nodes.ensures
    (whole_stored s every c.whole.result c.whole.ensures.first c.whole.ensures.len) in
    rw c.version.ensures (subst (λ (t : TrieModel). AreStored t items) (sym (trie_read s every items are)) (all_stored s every items are c.requires))

pub returns-clause-leaves : goal.returns-clause-leaves
returns-clause-leaves c =
    let s = c.args.stretches.now in
    let every = c.laws.ensures.every in
    let items = c.push_nodes.new.nodes.items in
    let are = all_are c.new-nodes.result.items items _ (λ l. stored_of s c.whole.result (length l)) c.new-nodes.ensures.items c.in_ok-push_nodes.ensures
    (whole_stored s every c.whole.result c.whole.ensures.first c.whole.ensures.len) in
    rw c.version.ensures (ap (λ (t : TrieModel). t.leaves) (trie_read s every items are))
