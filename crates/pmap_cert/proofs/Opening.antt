use Rattle.std.proofs.Common.{◌≡◌, ℕ, suc, ◌+◌, ◌*◌, ◌<◌, ◌≤◌, Bool, true, false, List, [], ◌∷◌, arith, length, sym, ap, ap₂, subst}
use Rattle.pmap_model.specs.ListModel.{Prefix}
use Rattle.pmap_model.specs.MapModel.{Label, MapModel}
use Rattle.pmap_cert.specs.Acceptance.{AreBitsAccepted, IsNodeAccepted, IsWithinExact}
use Rattle.pmap_cert.specs.CertificateModel.{ChainNode, InnerNode, LeafNode, Claim, Tree, claim_of, chain_claim, link_claim, claim_by_bits, exact_claim}
use Rattle.pmap_cert.specs.Compacting.{IsPath, OpensTo, line_count}
use Rattle.pmap_cert.proofs.Chains.{bits-end, claim-by_bits, within-itself, within-same_claim}
use Rattle.pmap_cert.proofs.Sets.{IsExact, apart, common, exact, same-back}

-- A claim that is within the exact claims along a chain's path is within the chain's exact claim, so a node with chains
-- is accepted if the node that it opens to is.

-- being within a claim is transitive
within-then : (a b c : Claim) → IsWithinExact a b → IsWithinExact b c → IsWithinExact a c
within-then a b c e f = record {
  cost = omega (arith, e.cost, f.cost);
  labels = λ cost x h.
      e.labels (omega (arith, e.cost, f.cost)) x (f.labels (omega (arith, e.cost, f.cost)) x h);
}

pub exact-within : (p r p' r' : Claim) → IsWithinExact p p' → IsWithinExact r r' → IsWithinExact (exact_claim p r) (exact_claim p' r')
exact-within p r p' r' e f = by (exact p r) (exact p' r')
  where
    by : IsExact p r (exact_claim p r) → IsExact p' r' (exact_claim p' r') → IsWithinExact (exact_claim p r) (exact_claim p' r')
    by (apart none is) (apart none' is') = record {
      cost = omega (arith, e.cost, f.cost, is.cost, is'.cost);
      labels = λ cost x h.
          let low = e.labels (omega (arith, e.cost, f.cost, is.cost, is'.cost)) x in
          let up = f.labels (omega (arith, e.cost, f.cost, is.cost, is'.cost)) x in
          let own = is.labels x in
          let given = is'.labels x in
          grind arith;
    }
    by (apart none is) (common y l u is') = record {
      cost =
          let low = λ (same : p.cost ≡ p'.cost). e.labels same y l in
          let up = λ (same : r.cost ≡ r'.cost). f.labels same y u in
          let total = is.cost in
          let total' = is'.cost in
          let least = e.cost in
          let less = f.cost in
          let apart = none y in
          grind arith;
      labels = λ cost x h.
          let low = λ (same : p.cost ≡ p'.cost). e.labels same x in
          let up = λ (same : r.cost ≡ r'.cost). f.labels same x in
          let total = is.cost in
          let total' = is'.cost in
          let least = e.cost in
          let less = f.cost in
          let own = is.labels x in
          let given = is'.labels x in
          grind arith;
    }
    by (common y l u is) (apart none' is') = record {
      cost = omega (arith, e.cost, f.cost, is.cost, is'.cost);
      labels = λ cost x h. absurd (omega (arith, e.cost, f.cost, is.cost, is'.cost));
    }
    by (common y l u is) (common y' l' u' is') = record {
      cost = omega (arith, e.cost, f.cost, is.cost, is'.cost);
      labels = λ cost x h.
          let low = e.labels (omega (arith, e.cost, f.cost, is.cost, is'.cost)) x in
          let up = f.labels (omega (arith, e.cost, f.cost, is.cost, is'.cost)) x in
          let own = is.labels x in
          let given = is'.labels x in
          grind arith;
    }

link-within : (bit : Bool) (side : Label) (p r : Claim) → IsWithinExact p r → IsWithinExact (link_claim bit side p) (link_claim bit side r)
link-within true side p r within =
    exact-within (claim_of (LeafNode side)) p (claim_of (LeafNode side)) r (within-itself (claim_of (LeafNode side))) within
link-within false side p r within =
    exact-within p (claim_of (LeafNode side)) r (claim_of (LeafNode side)) within (within-itself (claim_of (LeafNode side)))

-- a node claims the same as the node that it opens to
pub claim-opening : (c : Tree) (t : Tree) → OpensTo c t → claim_of t ≡ claim_of c
claim-opening (LeafNode x) t h = ap claim_of h
claim-opening (InnerNode claim lower upper) (ChainNode claim' bits side end) h = absurd h
claim-opening (InnerNode claim lower upper) (LeafNode y) h = absurd h
claim-opening (InnerNode claim lower upper) (InnerNode claim' lower' upper') h = sym h.0
claim-opening (ChainNode claim bits side end) t h = sym h.1

module _ (m : MapModel) (ps : List Prefix) (side : Label) (IsEnd : Tree → Type 0) (e : Claim) where
  -- the block at the path's end has an accepted node that meets `IsEnd`
  abbrev IsEndAccepted : ℕ → ℕ → Type 0
  IsEndAccepted n q = (t : Tree) × IsEnd t × IsNodeAccepted m ps t n q

  abbrev IsAlong : List Bool → Tree → ℕ → ℕ → Type 0
  IsAlong bits t n q = AreBitsAccepted m ps side IsEndAccepted bits n q × IsWithinExact (claim_of t) (claim_by_bits bits side e)

  module _ (claims : (t : Tree) → IsEnd t → claim_of t ≡ e) where
    step : (bit : Bool) (bits : List Bool) (claim p : Claim) → IsWithinExact claim (link_claim bit side p) →
        IsWithinExact p (claim_by_bits bits side e) → IsWithinExact claim (claim_by_bits (bit ∷ bits) side e)
    step bit bits claim p within rest =
        within-then claim (link_claim bit side p) (claim_by_bits (bit ∷ bits) side e) within
        (link-within bit side p (claim_by_bits bits side e) rest)

    along : (bits : List Bool) (t : Tree) (n q : ℕ) → IsPath IsEnd side bits t → IsNodeAccepted m ps t n q → IsAlong bits t n q
    along [] t n q path h =
        ((t, path, h), subst (λ (p : Claim). IsWithinExact (claim_of t) p) (claims t path) (within-itself (claim_of t)))
    along (bit ∷ bits) (LeafNode x) n q path h = absurd path
    along (bit ∷ bits) (ChainNode p bs s end) n q path h = absurd path
    along (true ∷ bits) (InnerNode claim lower upper) n q path h =
        let rest = along bits upper (suc n) (2 * q + 1) path.1 h.2 in (
          (h.0, subst (λ (t : Tree). IsNodeAccepted m ps t (suc n) (2 * q)) path.0 h.1, rest.0),
          step true bits claim (claim_of upper) (subst (λ (t : Tree). IsWithinExact claim (exact_claim (claim_of t) (claim_of upper))) path.0 h.3) rest.1,
        )
    along (false ∷ bits) (InnerNode claim lower upper) n q path h =
        let rest = along bits lower (suc n) (2 * q) path.1 h.1 in (
          (h.0, subst (λ (t : Tree). IsNodeAccepted m ps t (suc n) (2 * q + 1)) path.0 h.2, rest.0),
          step false bits claim (claim_of lower) (subst (λ (t : Tree). IsWithinExact claim (exact_claim (claim_of lower) (claim_of t))) path.0 h.3) rest.1,
        )

-- a claim that is within the exact claim taken bit by bit is within the chain's exact claim
within-chain : (claim : Claim) (bits : List Bool) (side : Label) (e : Claim) → 0 < length bits →
    IsWithinExact claim (claim_by_bits bits side e) → IsWithinExact claim (chain_claim (length bits) side e)
within-chain claim [] side e some within = absurd (omega arith)
within-chain claim (bit ∷ bits) side e some within =
    within-same_claim claim (claim_by_bits (bit ∷ bits) side e) (chain_claim (length (bit ∷ bits)) side e)
    (same-back (chain_claim (length (bit ∷ bits)) side e) (claim_by_bits (bit ∷ bits) side e) (claim-by_bits bit bits side e)) within

-- a node is accepted if the node that it opens to is
pub opening-accepted : (m : MapModel) (ps : List Prefix) (c : Tree) (t : Tree) (n q : ℕ) → OpensTo c t →
    IsNodeAccepted m ps t n q → IsNodeAccepted m ps c n q
opening-accepted m ps (LeafNode x) t n q is h = subst (λ (z : Tree). IsNodeAccepted m ps z n q) is h
opening-accepted m ps (InnerNode claim lower upper) (ChainNode p bs s end) n q is h = absurd is
opening-accepted m ps (InnerNode claim lower upper) (LeafNode y) n q is h = absurd is
opening-accepted m ps (InnerNode claim lower upper) (InnerNode claim' lower' upper') n q is h = (
  h.0,
  opening-accepted m ps lower lower' (suc n) (2 * q) is.1 h.1,
  opening-accepted m ps upper upper' (suc n) (2 * q + 1) is.2 h.2,
  subst (λ (p : Claim). IsWithinExact p (exact_claim (claim_of lower) (claim_of upper))) (sym is.0)
      (subst (IsWithinExact claim') (ap₂ exact_claim (claim-opening lower lower' is.1) (claim-opening upper upper' is.2)) h.3),
)
opening-accepted m ps (ChainNode claim bits side end) t n q is h =
    let path = along m ps side (OpensTo end) (claim_of end) (claim-opening end) bits t n q is.2 h in (
      is.0,
      bits-end m ps side (IsEndAccepted m ps side (OpensTo end) (claim_of end)) (IsNodeAccepted m ps end)
          (λ n' q' last. opening-accepted m ps end last.0 n' q' last.1 last.2) bits n q path.0,
      within-chain claim bits side (claim_of end) is.0
          (subst (λ (p : Claim). IsWithinExact p (claim_by_bits bits side (claim_of end))) (sym is.1) path.1),
    )

-- a node has no more lines than the node that it opens to
lines-path : (IsEnd : Tree → Type 0) (side : Label) (k : ℕ) → ((t : Tree) → IsEnd t → k ≤ line_count t) → (bits : List Bool) (t : Tree) →
    IsPath IsEnd side bits t → k + 2 * length bits ≤ line_count t
lines-path IsEnd side k ends [] t path = omega (arith, ends t path)
lines-path IsEnd side k ends (bit ∷ bits) (LeafNode x) path = absurd path
lines-path IsEnd side k ends (bit ∷ bits) (ChainNode p bs s end) path = absurd path
lines-path IsEnd side k ends (true ∷ bits) (InnerNode claim lower upper) path =
    let rest = lines-path IsEnd side k ends bits upper path.1 in omega (arith, ap line_count path.0)
lines-path IsEnd side k ends (false ∷ bits) (InnerNode claim lower upper) path =
    let rest = lines-path IsEnd side k ends bits lower path.1 in omega (arith, ap line_count path.0)

pub lines-opening : (c : Tree) (t : Tree) → OpensTo c t → line_count c ≤ line_count t
lines-opening (LeafNode x) t is = omega (arith, ap line_count is)
lines-opening (InnerNode claim lower upper) (ChainNode p bs s end) is = absurd is
lines-opening (InnerNode claim lower upper) (LeafNode y) is = absurd is
lines-opening (InnerNode claim lower upper) (InnerNode claim' lower' upper') is =
    let low = lines-opening lower lower' is.1 in let up = lines-opening upper upper' is.2 in omega arith
lines-opening (ChainNode claim bits side end) t is =
    let path = lines-path (OpensTo end) side (line_count end) (lines-opening end) bits t is.2 in
    let some = is.0 in omega arith
