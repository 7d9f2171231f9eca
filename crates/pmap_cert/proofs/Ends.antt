-- The cost of a minimal certificate: at each length no more blocks are halved than mappings have ends inside blocks.
use Rattle.std.proofs.Common.{◌≡◌, ℕ, zero, suc, ◌+◌, ◌*◌, ◌^◌, ◌<◌, ◌≤◌, None, arith, length, refl, ap}
use Rattle.std.proofs.lemmas.Nat.{mul-le}
use Rattle.prefix_keys.specs.Block.{first_of, last_of, width_of}
use Rattle.prefix_keys.proofs.Groups.{width-le}
use Rattle.pmap_model.proofs.Ends.{ends-few, ends-halves, ends-unsettled_by, halves-most}
use Rattle.pmap_model.proofs.Settled.{unsettled-halves}
use Rattle.pmap_model.specs.MapModel.{MapModel, last_such, meets}
use Rattle.pmap_text.specs.Reading.{mapping_limit}
use Rattle.pmap_model.specs.Settled.{ends}
use Rattle.pmap_cert.proofs.Sets.{exact_claim-cost}
use Rattle.pmap_cert.specs.CertificateModel.{ChainNode, Claim, InnerNode, LeafNode, Tree, claim_of, exact_claim}
use Rattle.pmap_cert.specs.Acceptance.{StandsFor}

abbrev block_ends : MapModel → ℕ → ℕ → ℕ
block_ends m n q = ends (first_of (width_of m.version) n q) (last_of (width_of m.version) n q) m.mappings

-- a node costs at most the number of ends inside its block, once for each length
cost-ends : (m : MapModel) (t : Tree) (left n q : ℕ) → n + left ≡ width_of m.version → StandsFor m t n q → (claim_of t).cost ≤ block_ends m n q * left
cost-ends m (LeafNode x) left n q e stands = omega arith
cost-ends m (ChainNode p bits side end) left n q e stands = absurd stands
cost-ends m (InnerNode p l r) zero n q e stands =
    let below : n < width_of m.version = unsettled-halves m n q (omega arith) stands.0 in
    absurd (omega arith)
cost-ends m (InnerNode p l r) (suc left) n q e stands =
    let same : p.cost ≡ (exact_claim (claim_of l) (claim_of r)).cost = ap (λ (c : Claim). c.cost) stands.1 in
    let most = halves-most (block_ends m (suc n) (2 * q)) (block_ends m (suc n) (2 * q + 1)) (block_ends m n q) left (ends-halves (width_of m.version) n q m.mappings (omega arith))
    (ends-unsettled_by (width_of m.version) n q m.fallback m.mappings (last_such (meets (width_of m.version) n q) m.mappings) refl stands.0) in
    let lower = cost-ends m l left (suc n) (2 * q) (omega arith) stands.2 in
    let upper = cost-ends m r left (suc n) (2 * q + 1) (omega arith) stands.3 in
    omega (arith, same, exact_claim-cost (claim_of l) (claim_of r) None, most, lower, upper)

-- a node costs less than 2 ^ 32 if its map has at most as many mappings as a text may have
pub cost-fits : (m : MapModel) (t : Tree) (left n q : ℕ) → length m.mappings ≤ mapping_limit → n + left ≡ width_of m.version → StandsFor m t n q
    → (claim_of t).cost < 2 ^ 32
cost-fits m t left n q few e stands =
    let wide = width-le m.version in
    let all = cost-ends m t left n q e stands in
    let most = ends-few (first_of (width_of m.version) n q) (last_of (width_of m.version) n q) m.mappings in
    let product : block_ends m n q * left ≤ 2000000 * 128 = mul-le (block_ends m n q) left 2000000 128 (omega arith) (omega arith) in
    omega arith
