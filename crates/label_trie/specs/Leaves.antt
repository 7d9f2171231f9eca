use Rattle.std.specs.Prelude.{ℕ, zero, suc, ◌+◌, ◌-◌, ◌*◌, ◌==◌, Bool, List}
use Rattle.std.specs.Prelude.{[], ◌∷◌, ◌++◌, Option, option_map, if◌then◌else◌}
use Rattle.prefix_keys.specs.Block.{first_of, last_of, width_of}
use Rattle.pmap_stretches.specs.Stretches.{StretchesModel, count_begun, label_held}
use Rattle.pmap_model.specs.declared.label.LabelId.{LabelId}
use Rattle.pmap_stretches.specs.Windows.{window_number}
use Rattle.pmap_stretches.specs.declared.stretches.window.Window.{Window}
use Rattle.label_trie.specs.TrieModel.{LeafModel}

-- How stretches divide a block: into halves, until one stretch has all addresses of each piece.

-- whether one stretch has the first and the last address of the block of n bits with the number q
abbrev pub in_one : StretchesModel → ℕ → ℕ → Bool
in_one s n q =
    count_begun s.firsts (first_of (width_of s.version) n q) - 1 == count_begun s.firsts
    (last_of (width_of s.version) n q) - 1

abbrev pub labelled_leaf : ℕ → ℕ → Option LabelId → LeafModel
labelled_leaf n q label = record { bits = n; number = q; label = option_map (λ id. id.0) label }

-- the leaf with the label of the block's first address
abbrev pub leaf_in : StretchesModel → ℕ → ℕ → LeafModel
leaf_in s n q = labelled_leaf n q (label_held s (first_of (width_of s.version) n q))

-- the leaves of the block of n bits with the number q, which has h host bits
abbrev pub leaves_in : StretchesModel → ℕ → ℕ → ℕ → List LeafModel
leaves_in s zero n q = leaf_in s n q ∷ []
leaves_in s (suc h) n q =
    if in_one s n q then leaf_in s n q ∷ [] else leaves_in s h (suc n) (2 * q) ++ leaves_in s h (suc n) (2 * q + 1)

abbrev pub leaves_of : StretchesModel → Window → List LeafModel
leaves_of s w = leaves_in s (width_of s.version - w.len) w.len (window_number s w)
