use Rattle.label_trie.proofs.trie.+push_leaves.Goals as goal

pub returns-in_ok-push_leaves-in-Inner-2-clause-version : goal.returns-in_ok-push_leaves-in-Inner-2-clause-version
returns-in_ok-push_leaves-in-Inner-2-clause-version t c =
    let low_version = c.in-Inner.ensures.low_half.version in
    let high_version = c.in-Inner.ensures.high_half.version in
    let low = rw low_version at c.in_ok-push_leaves-in-Inner.ensures.version in
    let high = rw high_version at c.in_ok-push_leaves-in-Inner-2.ensures.version in
    λ old. high (low old)
