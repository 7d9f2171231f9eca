use Rattle.std.specs.Prelude.{◌≡◌, ℕ, zero, suc, ◌+◌, ◌^◌, ◌<◌, ◌||◌, Bool, true, false, List}
use Rattle.std.specs.Prelude.{[], ◌∷◌, ◌++◌, Option, None, Some, filter, length, slice_get, All}
use Rattle.std.specs.List.{list_any}
use Rattle.prefix_keys.specs.declared.block.Block.{Block}
use Rattle.pmap_model.specs.declared.entry.Entry.{Entry}
use Rattle.pmap_model.specs.declared.label.LabelId.{LabelId}
use Rattle.pmap_model.specs.Label.{IsLabelTable}
use Rattle.pmap_model.specs.MapModel.{MapModel}
use Rattle.label_trie.specs.TrieModel.{IsSettledLeaf, IsUndivided, LeafModel}
use Rattle.pmap_cert.specs.CertificateText.{IsAscending}
use Rattle.pmap_cert.specs.CertificateModel.{ChainNode, ClaimOf, InnerNode, LeafNode, claim_of}
use Rattle.pmap_cert.specs.Node.{HasNumberForm, Node, tree_of}
use Rattle.pmap_cert.specs.Acceptance.{StandsFor}
pub use Rattle.pmap_cert.specs.Opened.{has_number, numbers_of}

abbrev pub common_numbers : List ℕ → List ℕ → List ℕ
common_numbers low high = filter (has_number high) low

abbrev pub IsUnion : List ℕ → List ℕ → List ℕ → Type 0
IsUnion low high set = (p : ℕ → Bool) → list_any p set ≡ (list_any p low || list_any p high)

-- the numbers of the first list ascend, then those of the second, and no number is in both
pub record AreApart (low high : List ℕ) : Type 0 where
  pub common : common_numbers low high ≡ []
  pub ascending : IsAscending (2 ^ 32) 0 (low ++ high)

-- The exact claim of two claims, by the sets' common numbers: the sum of the costs and these numbers, if there are any,
-- otherwise one more than the sum and the numbers of either set.
abbrev pub IsExactBy : ClaimOf ℕ → ClaimOf ℕ → List ℕ → ClaimOf ℕ → Type 0
IsExactBy low high [] claim =
    (claim.cost ≡ low.cost + high.cost + 1) × IsUnion low.labels high.labels claim.labels
    × IsAscending (2 ^ 32) 0 claim.labels
IsExactBy low high (n ∷ ns) claim = (claim.cost ≡ low.cost + high.cost) × (claim.labels ≡ n ∷ ns)

abbrev pub IsExact : ClaimOf ℕ → ClaimOf ℕ → ClaimOf ℕ → Type 0
IsExact low high claim = IsExactBy low high (common_numbers low.labels high.labels) claim

-- the node has no chain, each of its sets has a number, and at most `room` inner nodes are nested
abbrev pub IsSound : Node → ℕ → Type 0
IsSound (LeafNode id) room = Unit {0}
IsSound (InnerNode claim left right) zero = ⊥
IsSound (InnerNode claim left right) (suc room) = (0 < length claim.labels) × IsSound left room × IsSound right room
IsSound (ChainNode claim bits side end) room = ⊥

abbrev pub keeps : List LabelId → Option LabelId → Bool
keeps ids None = false
keeps ids (Some id) = has_number (numbers_of ids) id.0

-- A node that keeps the inherited label passes it on and adds no entry. Otherwise the node passes on the first of its
-- own labels, and adds its block's entry with that label.
abbrev pub IsOwnBy : Bool → List LabelId → Block → Option LabelId → List Entry → List Entry → LabelId → Type 0
IsOwnBy true ids block inherited old new id = (new ≡ old) × (inherited ≡ Some id)
IsOwnBy false ids block inherited old new id =
    (new ≡ old ++ record { block = block; label = id } ∷ []) × (slice_get ids 0 ≡ Some id)

abbrev pub IsOwn : List LabelId → Block → Option LabelId → List Entry → List Entry → LabelId → Type 0
IsOwn ids block inherited old new id = IsOwnBy (keeps ids inherited) ids block inherited old new id

-- The node represents the block of n bits with the number q, which has h host bits, in the map, and its numbers are of
-- the map's label table.
pub record IsMapNode (m : MapModel) (n q h : ℕ) (node : Node) : Type 0 where
  pub stands : StandsFor m (tree_of m.table node) n q
  pub form : HasNumberForm (length m.table) node h

-- the node is the certificate's for the block with these leaves, in each map that settles the leaves with their labels
-- and settles no block above a leaf
pub record IsCertified (n q h : ℕ) (leaves : List LeafModel) (node : Node) : Type 0 where
  pub each : (m : MapModel) → IsLabelTable m.table → All (IsSettledLeaf m) leaves → All (IsUndivided m) leaves
      → IsMapNode m n q h node
  pub sound : IsSound node h
  pub cost : (claim_of node).cost < length leaves
