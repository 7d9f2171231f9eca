use Rattle.std.proofs.Common.{◌≡◌, ℕ, zero, suc, ◌+◌, ◌*◌, ◌<◌, Option, Some, None, arith, refl}
use Rattle.prefix_keys.specs.Block.{width_of}
use Rattle.pmap_model.specs.ListModel.{ListModel}
use Rattle.pmap_model.specs.MapModel.{Label, MapModel, settled_label}
use Rattle.pmap_cert.specs.CertificateModel.{CertificateModel, InnerNode, LeafNode, Tree, claim_of, exact_claim}
use Rattle.pmap_cert.specs.Acceptance.{IsMinimalPair, StandsFor, entries_of, in_table_order}
use Rattle.pmap_model.proofs.Settled.{unsettled-halves}

-- Each map has a minimal pair: blocks are halved until they are settled, and a block of one address always is.

-- a node that represents the block
abbrev pub NodeFor : MapModel → ℕ → ℕ → Type 0
NodeFor m n q = (t : Tree) × StandsFor m t n q

-- the inner node over two nodes that represent the halves
node_over : (m : MapModel) (n q : ℕ) → settled_label m n q ≡ None → NodeFor m (suc n) (2 * q) → NodeFor m (suc n) (2 * q + 1) →
    NodeFor m n q
node_over m n q unsettled lower upper = (
  InnerNode (in_table_order m.table (exact_claim (claim_of lower.0) (claim_of upper.0))) lower.0 upper.0,
  (unsettled, refl, lower.1, upper.1),
)

-- a block has a node that represents it if it has one unless the map settles it
node_by : (m : MapModel) (n q : ℕ) (o : Option Label) → settled_label m n q ≡ o → (settled_label m n q ≡ None → NodeFor m n q) → NodeFor m n q
node_by m n q (Some x) settled node = (LeafNode x, settled)
node_by m n q None unsettled node = node unsettled

-- each block has a node that represents it, by recursion on the bits below the block
pub node_for : (m : MapModel) (left n q : ℕ) → n + left ≡ width_of m.version → NodeFor m n q
node_for m zero n q e = node_by m n q (settled_label m n q) refl (λ unsettled.
    let below : n < width_of m.version = unsettled-halves m n q (omega arith) unsettled in absurd (omega arith))
node_for m (suc left) n q e = node_by m n q (settled_label m n q) refl (λ unsettled.
    node_over m n q unsettled (node_for m left (suc n) (2 * q) (omega arith)) (node_for m left (suc n) (2 * q + 1) (omega arith)))

-- the minimal pair of a node that represents the address space
abbrev pub pair_of : (m : MapModel) → NodeFor m 0 0 → (l : ListModel) × (c : CertificateModel) × IsMinimalPair m l c
pair_of m node = (
  record {
    version = m.version;
    name = m.name;
    prefixes = entries_of (width_of m.version) m.table node.0 None 0 0;
    table = m.table;
  },
  record { format = 1; version = m.version; table = m.table; root = node.0 },
  record {
    certificate_format = refl;
    certificate_version = refl;
    certificate_table = refl;
    root = node.1;
    list_version = refl;
    list_name = refl;
    list_table = refl;
    prefixes = refl;
  },
)

abbrev pub minimal_pair : (m : MapModel) → (l : ListModel) × (c : CertificateModel) × IsMinimalPair m l c
minimal_pair m = pair_of m (node_for m (width_of m.version) 0 0 (omega arith))
