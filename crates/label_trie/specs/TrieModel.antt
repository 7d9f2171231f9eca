use Rattle.std.specs.Prelude.{◌≡◌, ℕ, suc, ◌+◌, ◌-◌, ◌/◌, ◌^◌, ◌<◌, ◌≤◌, ◌==◌, Bool, List, [], ◌∷◌, Option}
use Rattle.std.specs.Prelude.{Some, None, length, filter, find, slice_get, option_and_then, option_map}
use Rattle.std.specs.Option.{ForSome}
use Rattle.prefix_keys.specs.Block.{block_number, first_of, last_of, width_of}
use Rattle.prefix_keys.specs.declared.version.Version.{Version}
use Rattle.prefix_keys.specs.declared.block.Block.{Block}
use Rattle.pmap_model.specs.ListModel.{ListModel, label_below, lies_inside}
use Rattle.pmap_model.specs.MapModel.{MapModel, IsSettled, settled_label}
use Rattle.pmap_model.specs.MapText.{text_at}
pub use Rattle.pmap_model.specs.PrefixList.{number_of_block as number_of}
use Rattle.label_trie.specs.declared.leaf.Leaf.{Leaf}

-- A trie as contracts see it: its leaves, in ascending order of their addresses, and its nodes.

-- the block of `bits` bits with the number `number`, and the number of its label, if it has one
pub record LeafModel : Type 0 where
  pub bits : ℕ
  pub number : ℕ
  pub label : Option ℕ

-- a node of a trie: the block of `bits` bits with the number `number`, and the leaves at and below it in ascending
-- order
pub record NodeModel : Type 0 where
  pub bits : ℕ
  pub number : ℕ
  pub leaves : List LeafModel

-- a trie: the version of its addresses, its leaves, and its nodes in the order of their numbers
pub record TrieModel : Type 0 where
  pub version : Version
  pub leaves : List LeafModel
  pub nodes : List NodeModel

-- The leaves are consecutive blocks of addresses of W bits. The first begins at `from`, and the last ends right before
-- `to`, so each address between is in exactly one leaf.
abbrev pub IsCut : ℕ → ℕ → ℕ → List LeafModel → Type 0
IsCut W from to [] = from ≡ to
IsCut W from to (leaf ∷ leaves) =
    (leaf.bits ≤ W) × (first_of W leaf.bits leaf.number ≡ from)
    × IsCut W (last_of W leaf.bits leaf.number + 1) to leaves

-- among addresses of W bits, the leaf's block has the address
abbrev pub has_address : ℕ → ℕ → LeafModel → Bool
has_address W a leaf = leaf.number == block_number W leaf.bits a

-- the number of the label that the leaves give an address: that of the leaf whose block has the address
abbrev pub label_among : ℕ → List LeafModel → ℕ → Option ℕ
label_among W leaves a = option_and_then (λ leaf. leaf.label) (find (has_address W a) leaves)

-- the number of the label that the trie gives an address
abbrev pub label_in : TrieModel → ℕ → Option ℕ
label_in t a = label_among (width_of t.version) t.leaves a

-- the leaf's block is settled by the map with the text of the leaf's label, which is in the map's label table
pub record IsSettledLeaf (m : MapModel) (leaf : LeafModel) : Type 0 where
  pub id : ℕ
  pub is : leaf.label ≡ Some id
  pub known : id < length m.table
  pub settled : IsSettled m leaf.bits leaf.number (text_at m.table id)

-- the map settles no block that strictly contains the leaf's block
abbrev pub IsUndivided : MapModel → LeafModel → Type 0
IsUndivided m leaf = (k : ℕ) → k < leaf.bits → settled_label m k (leaf.number / 2 ^ (leaf.bits - k)) ≡ None

-- The prefix list settles the block of the leaf: no entry lies strictly inside the block, and the longest entry
-- that covers it has the leaf's label. If no entry covers the block, the leaf has no label.
pub record IsLeafSettledByList (l : ListModel) (leaf : LeafModel) : Type 0 where
  pub inside : filter (lies_inside (width_of l.version) leaf.bits leaf.number) l.prefixes ≡ []
  pub longest : label_below (width_of l.version) l.prefixes (suc leaf.bits)
      (first_of (width_of l.version) leaf.bits leaf.number)
      ≡ option_and_then (slice_get l.table) leaf.label
  pub known : ForSome leaf.label (λ id. id < length l.table)

abbrev pub model_of : Leaf → LeafModel
model_of leaf =
    record { bits = leaf.block.len; number = number_of leaf.block; label = option_map (λ id. id.0) leaf.label }

-- A cursor in a trie as contracts see it: the block of its node, the leaves at and below the node in ascending order,
-- the number of the node, and the nodes of the trie in the order of their numbers.
pub record CursorModel : Type 0 where
  pub block : Block
  pub leaves : List LeafModel
  pub number : ℕ
  pub nodes : List NodeModel

-- the cursor is at the node with its number
abbrev pub IsNode : CursorModel → Type 0
IsNode c = slice_get c.nodes c.number
    ≡ Some (record { bits = c.block.len; number = number_of c.block; leaves = c.leaves })
