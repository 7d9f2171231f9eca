use Rattle.std.proofs.Common.{◌≡◌, ◌-◌, arith, subst, sym}
use Rattle.pmap_minimise.proofs.Claimed.{AreClaimed, inner-added, inner-halves, leaf-added, none-claimed, root-claimed, unlabelled, upper-below}
use Rattle.pmap_minimise.proofs.claiming.claimed.Goals as goal

pub loop-number-init : goal.loop-number-init
loop-number-init c =
    subst (λ n. AreClaimed c.args.trie.now n c.in_ok-nodes.nodes) (sym c.node_count-count.ensures.nodes)
    (none-claimed c.args.trie.now c.in_ok-nodes.nodes (omega (arith, c.node_count-count.ensures.leaves)) c.in_ok-nodes.ensures)

pub loop-number-preserved-in-Continue-branch-2 : goal.loop-number-preserved-in-Continue-branch-2
loop-number-preserved-in-Continue-branch-2 c =
    leaf-added c.args.trie.now c.loop-number.number c.loop-number.nodes c.loop-number-test.true c.loop-number.invariant c.in-Labelled.id.0 c.push.new.self (omega arith) c.in-Labelled.ensures
    c.in_ok-push-in-Labelled.ensures.ok

pub unreachable-requires : goal.unreachable-requires
unreachable-requires c = unlabelled c.args.trie.now (c.loop-number.number - 1) c.requires c.in-Unlabelled.ensures

pub overflow_sub-line-in-Inner : goal.overflow_sub-line-in-Inner
overflow_sub-line-in-Inner c =
    let below = upper-below c.args.trie.now c.loop-number.number c.loop-number.nodes c.loop-number-test.true c.loop-number.invariant c.in-Inner.upper c.in-Inner.ensures in
    omega (arith, below, c.node_count-count.ensures.nodes)

pub push_inner-requires : goal.push_inner-requires
push_inner-requires c =
    let below = upper-below c.args.trie.now c.loop-number.number c.loop-number.nodes c.loop-number-test.true c.loop-number.invariant c.in-Inner.upper c.in-Inner.ensures in
    inner-halves c.args.trie.now c.loop-number.number c.loop-number.nodes c.loop-number-test.true c.loop-number.invariant c.in-Inner.upper c.in-Inner.ensures
    (c.node_count-count.result - 1 - c.in-Inner.upper) (omega (arith, below, c.node_count-count.ensures.nodes))

pub loop-number-preserved : goal.loop-number-preserved
loop-number-preserved c =
    let below = upper-below c.args.trie.now c.loop-number.number c.loop-number.nodes c.loop-number-test.true c.loop-number.invariant c.in-Inner.upper c.in-Inner.ensures in
    inner-added c.args.trie.now c.loop-number.number c.loop-number.nodes c.loop-number-test.true c.loop-number.invariant c.in-Inner.upper c.in-Inner.ensures
    (c.node_count-count.result - 1 - c.in-Inner.upper) c.push_inner.new.nodes (omega (arith, below, c.node_count-count.ensures.nodes)) c.in_ok-push_inner-in-Inner.ensures

pub of_reversed-requires : goal.of_reversed-requires
of_reversed-requires c =
    let none : c.loop-number.number ≡ 0 = let last = c.loop-number-test.false in omega arith in
    let root = root-claimed c.args.trie.now c.loop-number.nodes c.node_count-count.ensures.root (omega (arith, c.node_count-count.ensures.leaves, c.node_count-count.ensures.nodes)) (rw none at c.loop-number.invariant) in
    record { node = root.0; is = root.1 }

pub returns : goal.returns
returns c =
    let none : c.loop-number.number ≡ 0 = let last = c.loop-number-test.false in omega arith in
    let root = root-claimed c.args.trie.now c.loop-number.nodes c.node_count-count.ensures.root (omega (arith, c.node_count-count.ensures.leaves, c.node_count-count.ensures.nodes)) (rw none at c.loop-number.invariant) in
    rw (c.of_reversed.ensures root.0 root.1) root.2
