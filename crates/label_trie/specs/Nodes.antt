use Rattle.std.specs.Prelude.{◌≡◌, ℕ, zero, suc, ◌+◌, ◌-◌, ◌*◌, ◌^◌, ◌<◌, Bool, true, false, List}
use Rattle.std.specs.Prelude.{[], ◌∷◌, ◌++◌, Option, None, Some, get_or, if◌then◌else◌, length}
use Rattle.prefix_keys.specs.Block.{first_of, width_of}
use Rattle.prefix_keys.specs.declared.block.Block.{Block}
use Rattle.prefix_keys.specs.declared.version.Version.{Version}
use Rattle.pmap_stretches.specs.Stretches.{StretchesModel, label_held}
use Rattle.pmap_stretches.specs.Windows.{window_number}
use Rattle.pmap_model.specs.declared.label.LabelId.{LabelId}
use Rattle.pmap_stretches.specs.declared.stretches.window.Window.{Window}
use Rattle.label_trie.specs.Leaves.{in_one, labelled_leaf, leaves_in}
use Rattle.label_trie.specs.Stored.{IsNodeAt, IsStoredAs}
use Rattle.label_trie.specs.TrieModel.{LeafModel, NodeModel, TrieModel, number_of}
use Rattle.label_trie.specs.declared.node.TrieNode.{TrieNode}
use Rattle.label_trie.specs.declared.node.TrieNode.TheVariants.{Inner, Labelled, Unlabelled}

-- The nodes of a trie as it stores them, in the order of their numbers.

abbrev pub stored_at : List TrieNode → ℕ → TrieNode
stored_at nodes number = get_or nodes number Unlabelled

abbrev pub is_stored_leaf : TrieNode → Bool
is_stored_leaf (Inner upper) = false
is_stored_leaf _ = true

abbrev pub upper_of : TrieNode → ℕ
upper_of (Inner upper) = upper
upper_of _ = 0

abbrev pub stored_label : TrieNode → Option LabelId
stored_label (Labelled id) = Some id
stored_label _ = None

abbrev pub leaf_stored : Option LabelId → TrieNode
leaf_stored (Some id) = Labelled id
leaf_stored None = Unlabelled

-- the leaves at and below the node with the number k, for the block of n bits with the number q, which has h host bits
abbrev pub leaves_from : List TrieNode → ℕ → ℕ → ℕ → ℕ → List LeafModel
leaves_from nodes zero n q k = labelled_leaf n q (stored_label (stored_at nodes k)) ∷ []
leaves_from nodes (suc h) n q k =
    if is_stored_leaf (stored_at nodes k) then labelled_leaf n q (stored_label (stored_at nodes k)) ∷ []
    else leaves_from nodes h (suc n) (2 * q) (k + 1)
    ++ leaves_from nodes h (suc n) (2 * q + 1) (upper_of (stored_at nodes k))

abbrev pub trie_node_from : List TrieNode → ℕ → ℕ → ℕ → ℕ → NodeModel
trie_node_from nodes h n q k = record { bits = n; number = q; leaves = leaves_from nodes h n q k }

-- the nodes there: the block's own, those of its lower half, and those of its upper half
abbrev pub nodes_from : List TrieNode → ℕ → ℕ → ℕ → ℕ → List NodeModel
nodes_from nodes zero n q k = trie_node_from nodes zero n q k ∷ []
nodes_from nodes (suc h) n q k =
    if is_stored_leaf (stored_at nodes k) then trie_node_from nodes (suc h) n q k ∷ []
    else trie_node_from nodes (suc h) n q k
    ∷ (nodes_from nodes h (suc n) (2 * q) (k + 1)
    ++ nodes_from nodes h (suc n) (2 * q + 1) (upper_of (stored_at nodes k)))

-- the trie with these nodes
abbrev pub trie_in : Version → List TrieNode → TrieModel
trie_in version nodes = record {
  version = version;
  leaves = leaves_from nodes (width_of version) 0 0 0;
  nodes = nodes_from nodes (width_of version) 0 0 0;
}

-- Each node is stored, and the first one is that of the whole address space. There are fewer than 2^32.
pub record AreStored (t : TrieModel) (nodes : List TrieNode) : Type 0 where
  pub each : (k : ℕ) → k < length nodes → IsStoredAs t k (stored_at nodes k)
  pub count : length nodes ≡ length t.nodes
  pub leaves : length t.nodes + 1 ≡ 2 * length t.leaves
  pub few : length t.nodes < 2 ^ 32
  pub root : IsNodeAt t 0 (record { bits = 0; number = 0; leaves = t.leaves })

-- the leaves of the node with this number
abbrev pub leaves_at : List NodeModel → ℕ → List LeafModel
leaves_at nodes number = (get_or nodes number (record { bits = 0; number = 0; leaves = [] })).leaves

-- the node with this number is for this block
pub record IsPlace (t : TrieModel) (number : ℕ) (block : Block) : Type 0 where
  pub version : block.version ≡ t.version
  pub node : IsNodeAt t number (record {
    bits = block.len;
    number = number_of block;
    leaves = leaves_at t.nodes number;
  })

-- The nodes of a block as they are stored from the number k on. The block is that of n bits with the number q, which
-- has h host bits.
abbrev pub stored_in : StretchesModel → ℕ → ℕ → ℕ → ℕ → List TrieNode
stored_in s zero n q k = leaf_stored (label_held s (first_of (width_of s.version) n q)) ∷ []
stored_in s (suc h) n q k =
    if in_one s n q then leaf_stored (label_held s (first_of (width_of s.version) n q)) ∷ []
    else Inner (k + 2 * length (leaves_in s h (suc n) (2 * q)))
    ∷ (stored_in s h (suc n) (2 * q) (k + 1)
    ++ stored_in s h (suc n) (2 * q + 1) (k + 2 * length (leaves_in s h (suc n) (2 * q))))

abbrev pub stored_of : StretchesModel → Window → ℕ → List TrieNode
stored_of s w k = stored_in s (width_of s.version - w.len) w.len (window_number s w) k
