use Rattle.std.specs.Prelude.{◌≡◌, ℕ, ◌+◌, ◌*◌, ◌≤◌, List, [], ◌∷◌, ◌++◌, Option, None, Some, All, length, slice_get}
use Rattle.prefix_keys.specs.Block.{first_of, last_of, width_of}
use Rattle.pmap_model.specs.MapModel.{MapModel, settled_label}
use Rattle.label_trie.specs.TrieModel.{IsCut, IsUndivided, LeafModel, NodeModel, TrieModel}
use Rattle.label_trie.specs.declared.node.TrieNode.{TrieNode}
use Rattle.label_trie.specs.declared.node.TrieNode.TheVariants.{Inner, Labelled, Unlabelled}

-- The node has this number in the trie. Its leaves are consecutive leaves of the trie, and they cut its block.
pub record IsNodeAt (t : TrieModel) (number : ℕ) (node : NodeModel) : Type 0 where
  pub there : slice_get t.nodes number ≡ Some node
  pub within : node.bits ≤ width_of t.version
  pub cut : IsCut (width_of t.version) (first_of (width_of t.version) node.bits node.number)
      (last_of (width_of t.version) node.bits node.number + 1) node.leaves
  pub before : List LeafModel
  pub after : List LeafModel
  pub among : t.leaves ≡ before ++ (node.leaves ++ after)

-- the node with this number is a leaf with this label
pub record IsLeafAt (t : TrieModel) (number : ℕ) (label : Option ℕ) : Type 0 where
  pub leaf : LeafModel
  pub at : IsNodeAt t number (record { bits = leaf.bits; number = leaf.number; leaves = leaf ∷ [] })
  pub label_is : leaf.label ≡ label

-- The node with this number has two halves, and the number of the upper one is `upper`. A map that settles no block
-- larger than a leaf there doesn't settle the node's block.
pub record IsInnerAt (t : TrieModel) (number upper : ℕ) : Type 0 where
  pub whole : NodeModel
  pub low : NodeModel
  pub high : NodeModel
  pub whole_at : IsNodeAt t number whole
  pub low_at : IsNodeAt t (number + 1) low
  pub high_at : IsNodeAt t upper high
  pub low_bits : low.bits ≡ whole.bits + 1
  pub high_bits : high.bits ≡ whole.bits + 1
  pub low_number : low.number ≡ 2 * whole.number
  pub high_number : high.number ≡ 2 * whole.number + 1
  pub leaves : whole.leaves ≡ low.leaves ++ high.leaves
  pub unsettled : (m : MapModel) → All (IsUndivided m) whole.leaves → settled_label m whole.bits whole.number ≡ None
  pub upper_is : upper ≡ number + 2 * length low.leaves

-- the node with this number is stored as this one
abbrev pub IsStoredAs : TrieModel → ℕ → TrieNode → Type 0
IsStoredAs t number (Labelled id) = IsLeafAt t number (Some id.0)
IsStoredAs t number Unlabelled = IsLeafAt t number None
IsStoredAs t number (Inner upper) = IsInnerAt t number upper
