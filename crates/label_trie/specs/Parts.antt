use Rattle.std.specs.Prelude.{◌≡◌, ℕ, zero, suc, ◌+◌, ◌*◌, ◌⊎◌, [], ◌∷◌, ◌++◌, None, All, length}
use Rattle.prefix_keys.specs.declared.block.Block.{Block}
use Rattle.pmap_model.specs.MapModel.{MapModel, settled_label}
use Rattle.label_trie.specs.TrieModel.{IsUndivided, number_of, model_of, CursorModel, TrieModel}
use Rattle.label_trie.specs.declared.cursor.Parts.{Parts}
use Rattle.label_trie.specs.declared.cursor.Parts.TheVariants.{Leaf, Inner}

-- the block is the lower half of the whole if the side is 0, and the higher half if it is 1
pub record IsHalf (side : ℕ) (whole half : Block) : Type 0 where
  pub version : half.version ≡ whole.version
  pub len : half.len ≡ whole.len + 1
  pub number : number_of half ≡ 2 * number_of whole + side

-- A node and its two halves. A map that settles no block larger than a leaf there doesn't settle the node's block. At
-- and below a node there are twice as many nodes as leaves, less one.
pub record IsDivided (whole low high : CursorModel) : Type 0 where
  pub low_half : IsHalf 0 whole.block low.block
  pub high_half : IsHalf 1 whole.block high.block
  pub leaves : whole.leaves ≡ low.leaves ++ high.leaves
  pub unsettled : (m : MapModel) → All (IsUndivided m) whole.leaves
      → settled_label m whole.block.len (number_of whole.block) ≡ None
  pub low_nodes : low.nodes ≡ whole.nodes
  pub high_nodes : high.nodes ≡ whole.nodes
  pub low_number : low.number ≡ whole.number + 1
  pub high_number : high.number + 1 ≡ low.number + 2 * length low.leaves

-- the cursor is at the node of the whole address space
pub record IsRoot (t : TrieModel) (c : CursorModel) : Type 0 where
  pub version : c.block.version ≡ t.version
  pub value : c.block.value ≡ 0
  pub len : c.block.len ≡ 0
  pub leaves : c.leaves ≡ t.leaves
  pub number : c.number ≡ 0
  pub nodes : c.nodes ≡ t.nodes

-- a walk of this many steps, each from a node to one of its halves, leads from one node to the other
abbrev pub DescendsTo : ℕ → CursorModel → CursorModel → Type 0
DescendsTo zero from to = to ≡ from
DescendsTo (suc steps) from to =
    (whole : CursorModel) × (other : CursorModel) × DescendsTo steps from whole
    × (IsDivided whole to other ⊎ IsDivided whole other to)

-- a walk from the root meets the node
pub record IsMet (t : TrieModel) (c : CursorModel) : Type 0 where
  pub root : CursorModel
  pub is_root : IsRoot t root
  pub steps : ℕ
  pub leads : DescendsTo steps root c

-- the parts of a node: one leaf with its block and the label, or two nodes
abbrev pub ArePartsOf : CursorModel → Parts → Type 0
ArePartsOf c (Leaf label) = c.leaves ≡ model_of (record { block = c.block; label = label }) ∷ []
ArePartsOf c (Inner low high) = IsDivided c low high
