-- The nodes at which cursors are.
use Rattle.std.proofs.Common.{◌≡◌, ◌∙◌, ℕ, ◌+◌, ◌-◌, ◌*◌, ◌/◌, ◌^◌, Some, length, slice_get, sym, ap, subst, arith, ◌++◌}
use Rattle.std.proofs.Math.Nat.{zero-div}
use Rattle.std.proofs.lemmas.Option.{get_or_from_slice_get, same_Some}
use Rattle.prefix_keys.specs.Block.{block_number, width_of}
use Rattle.prefix_keys.specs.declared.block.Block.{Block}
use Rattle.label_trie.specs.Nodes.{IsPlace, leaves_at}
use Rattle.label_trie.specs.Parts.{IsDivided, IsHalf}
use Rattle.label_trie.specs.Stored.{IsInnerAt, IsNodeAt}
use Rattle.label_trie.specs.TrieModel.{CursorModel, NodeModel, TrieModel, number_of}

pub is_half : (side : ℕ) (whole half : Block) → half.version ≡ whole.version → half.len ≡ whole.len + 1
    → block_number (width_of whole.version) (whole.len + 1) half.value ≡ 2 * number_of whole + side → IsHalf side whole half
is_half side whole half version len number = record { version = version; len = len; number = rw (version, len) number }

-- the block of all addresses has the number 0
pub whole_number : (block : Block) → block.value ≡ 0 → number_of block ≡ 0
whole_number block value =
    let P = 2 ^ (width_of block.version - block.len) in
    ap (λ (a : ℕ). a / P) value ∙ zero-div P

-- a node's leaves by its number
pub leaves_by_number : (t : TrieModel) (number : ℕ) (node : NodeModel) → slice_get t.nodes number ≡ Some node → leaves_at t.nodes number ≡ node.leaves
leaves_by_number t number node there = ap (λ (n : NodeModel). n.leaves) (get_or_from_slice_get t.nodes number node _ there)

-- a block with the bits and the number of a node is that node's
pub placed : (t : TrieModel) (number : ℕ) (node : NodeModel) (block : Block) → IsNodeAt t number node → block.version ≡ t.version → block.len ≡ node.bits → number_of block ≡ node.number
    → IsPlace t number block
placed t number node block at version len number_is = record {
  version = version;
  node = subst (IsNodeAt t number)
      (λ i. record { bits = sym len i; number = sym number_is i; leaves = sym (leaves_by_number t number node at.there) i }) at;
}

-- a divided node and its halves
pub place_divided : (t : TrieModel) (number upper : ℕ) (block : Block) (low high : CursorModel) → IsPlace t number block → IsInnerAt t number upper → IsHalf 0 block low.block → IsHalf 1 block high.block
    → low.leaves ≡ leaves_at t.nodes (number + 1) → high.leaves ≡ leaves_at t.nodes upper → low.number ≡ number + 1 → high.number ≡ upper → low.nodes ≡ t.nodes → high.nodes ≡ t.nodes
    → IsDivided (record { block = block; leaves = leaves_at t.nodes number; number = number; nodes = t.nodes }) low high
place_divided t number upper block low high place inner low_half high_half low_leaves high_leaves low_number high_number low_nodes high_nodes =
    let whole = same_Some _ _ (sym inner.whole_at.there ∙ place.node.there) in
    let low_are = low_leaves ∙ leaves_by_number t (number + 1) inner.low inner.low_at.there in
    let high_are = high_leaves ∙ leaves_by_number t upper inner.high inner.high_at.there in
    record {
      low_half = low_half;
      high_half = high_half;
      leaves = sym (ap (λ (n : NodeModel). n.leaves) whole) ∙ inner.leaves ∙ (λ i. sym low_are i ++ sym high_are i);
      unsettled = rw whole at inner.unsettled;
      low_nodes = low_nodes;
      high_nodes = high_nodes;
      low_number = low_number;
      high_number = omega (arith, low_number, high_number, inner.upper_is, ap length low_are);
    }
