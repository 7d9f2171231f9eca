use Rattle.std.proofs.Common.{◌≡◌, ◌+◌, ◌*◌, ◌∙◌, ◌++◌, ◌∷◌, [], None, ap, arith, sym}
use Rattle.std.proofs.lemmas.List.{nil_from_length}
use Rattle.prefix_keys.specs.Block.{block_number, width_of}
use Rattle.label_trie.specs.TrieModel.{number_of}
use Rattle.label_trie.proofs.Places.{is_half}
use Rattle.pmap_minimise.proofs.Reading.{chain-read, due-some, end-at, inner-read, leaf-read, next-due, next-left, one-pushed, reading-begins, reading-ends, reading-goes, two-pushed}
use Rattle.pmap_minimise.proofs.entries.entries_of.Goals as goal

pub loop-block-init : goal.loop-block-init
loop-block-init c =
    let whole = c.whole.ensures in
    reading-begins c.args.root.now c.args.version c.whole.result c.at_root-at.result c.push.new.self.items c.new-entries.result whole.version whole.value whole.len c.requires c.at_root-at.ensures
    (c.in_ok-push.ensures.items ∙ ap (λ l. l ++ (c.whole.result, None) ∷ []) c.new-due.ensures.items) c.new-entries.ensures

pub loop-block-preserved-in-Leaf : goal.loop-block-preserved-in-Leaf
loop-block-preserved-in-Leaf c =
    let next = next-due _ _ _ _ _ c.loop-block.invariant _ _ _ c.in-Some.ensures.items in
    reading-goes _ _ _ _ _ c.loop-block.invariant _ _ _ c.in-Some.ensures.items c.next-at.result c.pop.new.self.items c.push_own.new.entries c.next-at.ensures
    (leaf-read _ _ _ _ _ c.claim.result.set.now _ c.in_ok-label.ensures c.in-Leaf.field-0.0 _ next c.claim.ensures.set c.in-Leaf.ensures)

pub loop-block-smaller-in-Continue-branch-4 : goal.loop-block-smaller-in-Continue-branch-4
loop-block-smaller-in-Continue-branch-4 c =
    let next = next-due _ _ _ _ _ c.loop-block.invariant _ _ _ c.in-Some.ensures.items in
    rw c.next-at.ensures (next-left c.loop-block.at (due-some c.loop-block.at _ _ next))

pub loop-block-preserved-in-Continue-branch-4 : goal.loop-block-preserved-in-Continue-branch-4
loop-block-preserved-in-Continue-branch-4 c =
    let block = c.in-Some.block in
    let next = next-due _ _ _ _ _ c.loop-block.invariant _ _ _ c.in-Some.ensures.items in
    let low = c.in-Some-halves.low in
    let high = c.in-Some-halves.high in
    let are = c.in-Some-halves.ensures in
    let number : block_number (width_of block.version) (block.len + 1) low.value ≡ 2 * number_of block + 0 = omega (arith, are.lower_number) in
    let read = inner-read _ _ _ _ _ c.claim.result.set.now _ c.in_ok-label.ensures low high (is_half 0 block low are.versions.0 are.lens.0 number) (is_half 1 block high are.versions.1 are.lens.1 are.upper_number)
    c.in-Inner.field-0.cost _ _ next c.claim.ensures.set c.in-Inner.ensures in
    let pushed = two-pushed c.pop.new.self.items _ _ low high _ c.in_ok-push-in-Inner.ensures.items c.in_ok-push-in-Inner-2.ensures.items in
    reading-goes _ _ _ _ _ c.loop-block.invariant _ _ _ c.in-Some.ensures.items c.next-at.result c.push-in-Inner-2.new.self.items c.push_own.new.entries c.next-at.ensures (rw pushed read)

pub end-requires : goal.end-requires
end-requires c =
    let path = c.in-Chain.path.now in
    let next = next-due _ _ _ _ _ c.loop-block.invariant _ _ _ c.in-Some.ensures.items in
    let room = (end-at _ _ _ c.in-Chain.claim.cost path.value path.count c.in-Chain.side.0 _ _ next c.in-Chain.ensures).room_is in
    let inside = c.in-Some.block.len_in_range in
    omega arith

pub loop-block-preserved : goal.loop-block-preserved
loop-block-preserved c =
    let path = c.in-Chain.path.now in
    let next = next-due _ _ _ _ _ c.loop-block.invariant _ _ _ c.in-Some.ensures.items in
    let read = chain-read _ _ _ _ _ c.claim.result.set.now _ c.in_ok-label.ensures c.end.result c.in-Chain.claim.cost path.value path.count c.in-Chain.side.0 _ _ c.end.ensures next c.claim.ensures.set c.in-Chain.ensures in
    let pushed = one-pushed c.pop.new.self.items _ c.end.result _ c.in_ok-push-in-Chain.ensures.items in
    reading-goes _ _ _ _ _ c.loop-block.invariant _ _ _ c.in-Some.ensures.items c.next-at.result c.push-in-Chain.new.self.items c.push_own.new.entries c.next-at.ensures (rw pushed read)

pub returns : goal.returns
returns c = reading-ends _ _ _ _ _ c.loop-block.invariant (nil_from_length c.loop-block.due.items (sym c.loop-block.due.ok.0 ∙ c.in_default.ensures.cases.0))
