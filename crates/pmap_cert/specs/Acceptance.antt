use Rattle.std.specs.Prelude.{◌≡◌, ℕ, suc, ◌+◌, ◌*◌, ◌<◌, ◌≤◌, Bool, List, [], ◌∷◌, Some, filter, length}
use Rattle.std.specs.Prelude.{IsTrue, false, ◌++◌, Option, None, find, slice_index_or, unwrap_or}
use Rattle.std.specs.Prelude.{if◌then◌else◌, All, ◌-◌, ◌%◌, ◌^◌, ◌&&◌, ◌||◌, ◌==◌, nat_lt, not}
use Rattle.std.specs.List.{AllByRecursion}
use Rattle.std.specs.Option.{option_map_or}
use Rattle.prefix_keys.specs.Block.{first_of, width_of}
use Rattle.pmap_model.specs.ListModel.{IsEquivalent, ListModel, Prefix, label_below, lies_inside}
use Rattle.pmap_model.specs.MapModel.{IsSettled, Label, MapModel, settled_label}
use Rattle.pmap_cert.specs.CertificateModel.{CertificateModel, ChainNode, InnerNode, LeafNode, Claim, Tree}
use Rattle.pmap_cert.specs.CertificateModel.{claim_of, chain_claim, chosen_half, side_half, exact_claim}
use Rattle.pmap_model.specs.Label.{has_label}

-- Shortest lists, and the minimal pair of a map. Labels are compared by their texts.

-- no prefix list that is equivalent to the map has fewer entries
abbrev pub IsLeast : MapModel → ListModel → Type 0
IsLeast m l = (other : ListModel) → IsEquivalent other m → length l.prefixes ≤ length other.prefixes

-- The minimal pair of a map: its certificate of exact claims and the prefix list read off it.

-- the claim with its set in the order of the table, and any labels that the table lacks after the others
abbrev pub in_table_order : List Label → Claim → Claim
in_table_order table claim =
    record claim {
      labels = filter (has_label claim.labels) table
          ++ filter (λ x. not (has_label table x)) claim.labels;
    }

-- The node represents the block of n bits with the number q: a leaf if the map settles the block with its label, or,
-- for an unsettled block, an inner node with the exact claim of its nodes, which represent the halves, and with its set
-- in the order of the map's table.
abbrev pub StandsFor : MapModel → Tree → ℕ → ℕ → Type 0
StandsFor m (LeafNode x) n q = settled_label m n q ≡ Some x
StandsFor m (InnerNode claim lower upper) n q =
    (settled_label m n q ≡ None)
    × (claim ≡ in_table_order m.table (exact_claim (claim_of lower) (claim_of upper)))
    × StandsFor m lower (suc n) (2 * q) × StandsFor m upper (suc n) (2 * q + 1)
StandsFor m (ChainNode claim bits side end) n q = ⊥

-- the label of the set that is first in the table, or, if the table has none of them, the first of the set's list
abbrev pub least_label : List Label → List Label → Label
least_label table s = unwrap_or (find (has_label s) table) (slice_index_or s 0 [])

-- the set has the inherited label, if there is one
abbrev pub has_inherited : List Label → Option Label → Bool
has_inherited s inherited = option_map_or (has_label s) inherited false

-- the label that a node with the set s passes on: the inherited one if the set has it, otherwise the set's least label
abbrev pub handed_on : List Label → List Label → Option Label → Option Label
handed_on table s inherited =
    if has_inherited s inherited then inherited else Some (least_label table s)

-- the entry of a node for its own block: none if the node passes on the label that it inherits
abbrev pub own_entry : ℕ → List Label → List Label → Option Label → ℕ → ℕ → List Prefix
own_entry W table s inherited n q =
    if has_inherited s inherited
    then []
    else record { start = first_of W n q; bits = n; label = least_label table s } ∷ []

-- the entries of a node that represents the block of n bits with the number q, and of the nodes below it
abbrev pub entries_of : ℕ → List Label → Tree → Option Label → ℕ → ℕ → List Prefix
entries_of W table (LeafNode x) inherited n q = own_entry W table (x ∷ []) inherited n q
entries_of W table (InnerNode claim lower upper) inherited n q =
    own_entry W table claim.labels inherited n q
    ++ (entries_of W table lower (handed_on table claim.labels inherited) (suc n) (2 * q)
    ++ entries_of W table upper (handed_on table claim.labels inherited) (suc n) (2 * q + 1))
entries_of W table (ChainNode claim bits side end) inherited n q = []

-- the list and the certificate are a minimal pair of the map: the certificate's root represents the address space, the
-- list has the root's entries with nothing inherited, both have the map's version and table, and the format is 1
pub record IsMinimalPair (m : MapModel) (l : ListModel) (c : CertificateModel) : Type 0 where
  pub certificate_format : c.format ≡ 1
  pub certificate_version : c.version ≡ m.version
  pub certificate_table : c.table ≡ m.table
  pub root : StandsFor m c.root 0 0
  pub list_version : l.version ≡ m.version
  pub list_name : l.name ≡ m.name
  pub list_table : l.table ≡ m.table
  pub prefixes : l.prefixes ≡ entries_of (width_of m.version) m.table c.root None 0 0

-- The form of a minimal pair's list, in which it can be kept and printed as a prefix list.

-- the first entry begins at a lower address, or both begin at the same address and the first has fewer bits
abbrev pub begins_before : Prefix → Prefix → Bool
begins_before p r = nat_lt p.start r.start || (p.start == r.start && nat_lt p.bits r.bits)

-- each entry precedes all later ones in this order, so no two have one block
abbrev pub IsInOrder : List Prefix → Type 0
IsInOrder [] = Unit {0}
IsInOrder (p ∷ ps) = AllByRecursion (λ r. IsTrue (begins_before p r)) ps × IsInOrder ps

-- the entry has a block of addresses of W bits: its start is an address without host bits
pub record HasBlock (W : ℕ) (p : Prefix) : Type 0 where
  pub bits : p.bits ≤ W
  pub start : p.start < 2 ^ W
  pub no_host_bit : p.start % 2 ^ (W - p.bits) ≡ 0

-- Below: only contracts of parts and proofs use these; no promise of the program rests on them.

-- When a certificate is accepted for a map and a prefix list.

-- the list settles the block with the label x: no entry lies strictly inside, and the longest that covers the block has
-- x
pub record ListSettles (W : ℕ) (ps : List Prefix) (n q : ℕ) (x : Label) : Type 0 where
  pub inside : filter (lies_inside W n q) ps ≡ []
  pub longest : label_below W ps (suc n) (first_of W n q) ≡ Some x

-- the claim is within the exact claim e: its cost is below e's, or it is e's and the claim's set has all of e's labels
pub record IsWithinExact (claim e : Claim) : Type 0 where
  pub cost : claim.cost ≤ e.cost
  pub labels : claim.cost ≡ e.cost → (x : Label) → IsTrue (has_label e.labels x) → IsTrue (has_label claim.labels x)

-- A leaf with the label is accepted for the block of n bits with the number q: the map settles the block with the
-- label, and so does the list.
abbrev pub IsLeafAccepted : MapModel → List Prefix → Label → ℕ → ℕ → Type 0
IsLeafAccepted m ps x n q = IsSettled m n q x × ListSettles (width_of m.version) ps n q x

-- The path of a chain's bits from the block of n bits with the number q is accepted: each block on it has halves, the
-- half beside the path is accepted as a leaf with the side label, and `IsEnd` holds of the block at the end.
abbrev pub AreBitsAccepted : MapModel → List Prefix → Label → (ℕ → ℕ → Type 0) → List Bool → ℕ → ℕ → Type 0
AreBitsAccepted m ps side IsEnd [] n q = IsEnd n q
AreBitsAccepted m ps side IsEnd (bit ∷ bits) n q =
    (n < width_of m.version) × IsLeafAccepted m ps side (suc n) (side_half bit q)
    × AreBitsAccepted m ps side IsEnd bits (suc n) (chosen_half bit q)

-- The node is accepted for the block of n bits with the number q: a leaf as `IsLeafAccepted` says; an inner node if the
-- block has halves, its nodes are accepted for them, and its claim is within the exact claim of their claims; a chain
-- if it has a bit, its path is accepted with an accepted node at the end, and its claim is within the chain's exact
-- claim.
abbrev pub IsNodeAccepted : MapModel → List Prefix → Tree → ℕ → ℕ → Type 0
IsNodeAccepted m ps (LeafNode x) n q = IsLeafAccepted m ps x n q
IsNodeAccepted m ps (InnerNode claim lower upper) n q =
    (n < width_of m.version) × IsNodeAccepted m ps lower (suc n) (2 * q) × IsNodeAccepted m ps upper (suc n) (2 * q + 1)
    × IsWithinExact claim (exact_claim (claim_of lower) (claim_of upper))
IsNodeAccepted m ps (ChainNode claim bits side end) n q =
    (0 < length bits) × AreBitsAccepted m ps side (IsNodeAccepted m ps end) bits n q
    × IsWithinExact claim (chain_claim (length bits) side (claim_of end))

-- the certificate is accepted for the map and the list: the versions agree, its root is accepted for the address space,
-- and the list has at most as many entries as the root's cost plus one
pub record IsAccepted (m : MapModel) (l : ListModel) (c : CertificateModel) : Type 0 where
  pub list_version : l.version ≡ m.version
  pub certificate_version : c.version ≡ m.version
  pub root : IsNodeAccepted m l.prefixes c.root 0 0
  pub count : length l.prefixes ≤ (claim_of c.root).cost + 1

-- the map's label table has the default and the label of each mapping
pub record HasItsLabels (m : MapModel) : Type 0 where
  pub fallback : IsTrue (has_label m.table m.fallback)
  pub mappings : All (λ p. IsTrue (has_label m.table p.label)) m.mappings

-- the entries are blocks in order, with labels of the table
pub record HasListForm (l : ListModel) : Type 0 where
  pub order : IsInOrder l.prefixes
  pub blocks : All (HasBlock (width_of l.version)) l.prefixes
  pub labels : All (λ p. IsTrue (has_label l.table p.label)) l.prefixes
