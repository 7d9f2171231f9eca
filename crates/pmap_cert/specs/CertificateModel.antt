use Rattle.std.specs.Prelude.{ℕ, Bool, List, [], ◌∷◌, ◌≡◌, ◌+◌, ◌++◌, filter, map}
use Rattle.std.specs.Prelude.{zero, suc, ◌*◌, ◌⊎◌, true, false, length, if◌then◌else◌}
use Rattle.prefix_keys.specs.declared.version.Version.{Version}
use Rattle.pmap_model.specs.Label.{has_label}
use Rattle.pmap_model.specs.MapModel.{Label}

-- A certificate as contracts see it: a binary tree over the address space, with label texts.

-- a cost and a set of labels, which are texts or numbers; the order of the set's list doesn't count
pub record ClaimOf (L : Type 0) : Type 0 where
  pub cost : ℕ
  pub labels : List L

abbrev pub Claim : Type 0
Claim = ClaimOf Label

-- A node: a leaf with a label, an inner node with its claim and the nodes of its block's halves, or a chain. A chain
-- represents nested inner nodes, each with a leaf in one half and the next node in the other. It has the claim of the
-- first of them, a bit for each of them that is 1 if the path continues in the upper half, the label of all leaves
-- beside the path, and the node at the path's end.
pub data TreeOf (L : Type 0) : Type 0 where
  LeafNode : (x : L) → TreeOf L
  InnerNode : (claim : ClaimOf L) (lower upper : TreeOf L) → TreeOf L
  ChainNode : (claim : ClaimOf L) (bits : List Bool) (side : L) (end : TreeOf L) → TreeOf L

abbrev pub Tree : Type 0
Tree = TreeOf Label

-- the claim of a node; a leaf claims the cost 0 and only its label
abbrev pub claim_of : {L : Type 0} → TreeOf L → ClaimOf L
claim_of (LeafNode x) = record { cost = 0; labels = x ∷ [] }
claim_of (InnerNode claim lower upper) = claim
claim_of (ChainNode claim bits side end) = claim

-- a certificate: its format, 1 or 2 (1 has no chains), the version of its addresses, its label table and its root,
-- which represents the address space
pub record CertificateModel : Type 0 where
  pub format : ℕ
  pub version : Version
  pub table : List Label
  pub root : Tree

-- The exact claim of the claims of a block's halves.

-- the exact claim by the common labels: the sum of the costs with these, or, without any, one more with either set's
-- labels
abbrev pub exact_claim_by : Claim → Claim → List Label → Claim
exact_claim_by p r [] = record { cost = p.cost + r.cost + 1; labels = p.labels ++ r.labels }
exact_claim_by p r (x ∷ xs) = record { cost = p.cost + r.cost; labels = x ∷ xs }

abbrev pub exact_claim : Claim → Claim → Claim
exact_claim p r = exact_claim_by p r (filter (has_label r.labels) p.labels)

-- Chains: their exact claim, and the halves of the blocks on their path.

-- the set of a chain's exact claim if the end's set lacks the side label: of one bit both, of more the side label alone
abbrev pub chain_labels : ℕ → Label → List Label → List Label
chain_labels (suc zero) side s = side ∷ s
chain_labels _ side s = side ∷ []

-- the exact claim of a chain of n bits, by its side label and what its end claims
abbrev pub chain_claim : ℕ → Label → Claim → Claim
chain_claim n side end =
    if has_label end.labels side
    then record { cost = end.cost; labels = side ∷ [] }
    else record { cost = end.cost + 1; labels = chain_labels n side end.labels }

-- the number of the half that a bit chooses in the block with the number q
abbrev pub chosen_half : Bool → ℕ → ℕ
chosen_half bit q = if bit then 2 * q + 1 else 2 * q

-- the number of the half that a bit doesn't choose in the block with the number q
abbrev pub side_half : Bool → ℕ → ℕ
side_half bit q = if bit then 2 * q else 2 * q + 1

-- the claim and the tree with each label replaced
abbrev pub map_claim : {L M : Type 0} → (L → M) → ClaimOf L → ClaimOf M
map_claim f claim = record { cost = claim.cost; labels = map f claim.labels }

abbrev pub map_tree : {L M : Type 0} → (L → M) → TreeOf L → TreeOf M
map_tree f (LeafNode x) = LeafNode (f x)
map_tree f (InnerNode claim lower upper) =
    InnerNode (map_claim f claim) (map_tree f lower) (map_tree f upper)
map_tree f (ChainNode claim bits side end) =
    ChainNode (map_claim f claim) bits (f side) (map_tree f end)

-- Below: only contracts of parts and proofs use these; no promise of the program rests on them.

-- two claims have the same cost and the same set
pub record IsSameClaim (p r : Claim) : Type 0 where
  pub cost : p.cost ≡ r.cost
  pub labels : (x : Label) → has_label p.labels x ≡ has_label r.labels x

-- the claim has the given cost, and just the labels that pass the test
pub record IsClaimWith (p : Claim) (total : ℕ) (test : Label → Bool) : Type 0 where
  pub cost : p.cost ≡ total
  pub labels : (x : Label) → has_label p.labels x ≡ test x

-- Chains opened: the inner nodes and leaves that they represent.

-- the inner node with this claim whose chosen half is the node and whose other half is a leaf with the side label
abbrev pub link : Claim → Bool → Label → Tree → Tree
link claim true side node = InnerNode claim (LeafNode side) node
link claim false side node = InnerNode claim node (LeafNode side)

-- the inner nodes of a chain above its opened end: each claims the chain's exact claim for the bits from it on
abbrev pub links : List Bool → Label → Tree → Tree
links [] side end = end
links (bit ∷ bits) side end = link (chain_claim (suc (length bits)) side (claim_of end)) bit side (links bits side end)

-- a chain opened; its topmost inner node has the chain's own claim instead of the exact claim
abbrev pub chain_opened : Claim → List Bool → Label → Tree → Tree
chain_opened claim [] side end = end
chain_opened claim (bit ∷ bits) side end = link claim bit side (links bits side end)

-- the certificate tree without chains: each chain opened into its inner nodes and side leaves
abbrev pub opened_tree : Tree → Tree
opened_tree (LeafNode x) = LeafNode x
opened_tree (InnerNode claim lower upper) = InnerNode claim (opened_tree lower) (opened_tree upper)
opened_tree (ChainNode claim bits side end) = chain_opened claim bits side (opened_tree end)

-- the certificate with each chain opened
abbrev pub opened_certificate : CertificateModel → CertificateModel
opened_certificate c = record { format = c.format; version = c.version; table = c.table; root = opened_tree c.root }

-- the tree has no chain
abbrev pub IsPlain : {L : Type 0} → TreeOf L → Type 0
IsPlain (LeafNode x) = Unit {0}
IsPlain (InnerNode claim lower upper) = IsPlain lower × IsPlain upper
IsPlain (ChainNode claim bits side end) = ⊥

-- the certificate is of format 1, which has no chains, or of format 2
abbrev pub IsOfFormat : CertificateModel → Type 0
IsOfFormat c = ((c.format ≡ 1) × IsPlain c.root) ⊎ (c.format ≡ 2)

-- the exact claim of a link: of a leaf with the side label and a node with this claim, in the order of the halves
abbrev pub link_claim : Bool → Label → Claim → Claim
link_claim true side p = exact_claim (claim_of (LeafNode side)) p
link_claim false side p = exact_claim p (claim_of (LeafNode side))

-- the exact claim of a chain taken bit by bit, from the end up
abbrev pub claim_by_bits : List Bool → Label → Claim → Claim
claim_by_bits [] side end = end
claim_by_bits (bit ∷ bits) side end = link_claim bit side (claim_by_bits bits side end)
