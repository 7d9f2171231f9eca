use Rattle.std.proofs.Common.{◌∙◌, ap, arith, length, subst, sym}
use Rattle.prefix_keys.specs.Block.{width_of}
use Rattle.prefix_keys.proofs.Groups.{width-le}
use Rattle.label_trie.specs.Stored.{IsNodeAt}
use Rattle.label_trie.specs.TrieModel.{TrieModel}
use Rattle.label_trie.proofs.Lookup.{way_below, way_bits, way_high, way_leaf, way_low, way_positive, way_start}
use Rattle.label_trie.proofs.trie.Trie.label_at.Goals as goal

pub loop-id-init : goal.loop-id-init
loop-id-init c =
    let t = c.args.self.now in
    let root = subst (λ (t : TrieModel). IsNodeAt t 0 (record { bits = 0; number = 0; leaves = t.leaves })) c.self.view_is c.self.invariant.root in
    let width = c.width-bits.ensures ∙ ap (λ (t : TrieModel). width_of t.version) c.self.view_is in
    rw width (way_start t c.args.addr.value root (rw c.requires at c.args.addr.in_range))

pub stored-requires : goal.stored-requires
stored-requires c = way_below c.args.self.now c.args.addr.value c.loop-id.number c.loop-id.bits c.loop-id.invariant

pub overflow_shr-addr : goal.overflow_shr-addr
overflow_shr-addr c =
    let t = c.args.self.now in
    let most = way_bits t c.args.addr.value c.loop-id.number c.loop-id.bits c.loop-id.invariant in
    let some = way_positive t c.args.addr.value c.loop-id.number c.loop-id.bits c.loop-id.invariant c.in-Inner.upper c.in-Inner.ensures in
    omega (arith, most, some, width-le t.version)

pub overflow_add-number : goal.overflow_add-number
overflow_add-number c =
    let below = way_below c.args.self.now c.args.addr.value c.loop-id.number c.loop-id.bits c.loop-id.invariant in
    omega (arith, below, c.self.invariant.few, ap (λ (t : TrieModel). length t.nodes) c.self.view_is)

pub loop-id-preserved-then-addr-bits-eq0 : goal.loop-id-preserved-then-addr-bits-eq0
loop-id-preserved-then-addr-bits-eq0 c =
    way_low c.args.self.now c.args.addr.value c.loop-id.number c.loop-id.bits c.loop-id.invariant c.in-Inner.upper c.in-Inner.ensures c.if-addr-bits-eq0.true

pub loop-id-preserved : goal.loop-id-preserved
loop-id-preserved c =
    way_high c.args.self.now c.args.addr.value c.loop-id.number c.loop-id.bits c.loop-id.invariant c.in-Inner.upper c.in-Inner.ensures c.if-addr-bits-eq0.false

pub returns-in-Labelled : goal.returns-in-Labelled
returns-in-Labelled c = sym (way_leaf c.args.self.now c.args.addr.value c.loop-id.number c.loop-id.bits c.loop-id.invariant _ c.in-Labelled.ensures)

pub returns-in-Unlabelled : goal.returns-in-Unlabelled
returns-in-Unlabelled c = sym (way_leaf c.args.self.now c.args.addr.value c.loop-id.number c.loop-id.bits c.loop-id.invariant _ c.in-Unlabelled.ensures)
