use Rattle.std.proofs.Common.{◌≡◌, ℕ, zero, suc, ◌+◌, ◌*◌, ◌<◌, ◌≤◌, Bool, true, false, cond, List, [], ◌∷◌, IsTrue, arith, length, refl, sym, ap₂, ◌∙◌, subst}
use Rattle.pmap_model.specs.ListModel.{ListModel, Prefix}
use Rattle.pmap_model.specs.MapModel.{Label, MapModel}
use Rattle.prefix_keys.specs.Block.{width_of}
use Rattle.pmap_cert.specs.Acceptance.{AreBitsAccepted, IsAccepted, IsLeafAccepted, IsNodeAccepted, IsWithinExact}
use Rattle.pmap_cert.specs.CertificateModel.{CertificateModel, ChainNode, InnerNode, LeafNode, Claim, Tree, claim_of, IsPlain, chain_labels, chain_opened, chain_claim, chosen_half, link, link_claim, links, opened_tree, opened_certificate, claim_by_bits, side_half, IsSameClaim, exact_claim}
use Rattle.pmap_cert.proofs.Sets.{exact_claim-apart, exact_claim-common, has-head, has-own, has-single, same-exact_claim, same-then}
use Rattle.pmap_model.specs.Label.{has_label}

-- A chain's exact claim is the exact claim taken bit by bit, and an accepted certificate with chains is accepted with
-- each chain opened.

-- the claim of the leaf beside the path
abbrev side_claim : Label → Claim
side_claim side = claim_of (LeafNode side)

same-itself : (a : Claim) → IsSameClaim a a
same-itself a = record { cost = refl; labels = λ x. refl }

-- a set has or lacks each label of the side leaf's set as it has or lacks the side label
at-own : (s : List Label) (side x : Label) (b : Bool) → has_label s side ≡ b → has_label (side ∷ []) x ≡ true → has_label s x ≡ b
at-own s side x b known own = subst (λ (y : Label). has_label s y ≡ b) (has-single side x own) known

-- the exact claim of a side leaf and a node whose set has the side label
link-has : (bit : Bool) (side : Label) (p : Claim) → has_label p.labels side ≡ true →
    IsSameClaim (record { cost = p.cost; labels = side ∷ [] }) (link_claim bit side p)
link-has true side p known =
    let h = exact_claim-common (side_claim side) p side (has-own side) known in
    record {
      cost = omega (arith, h.cost);
      labels = λ x. let own = at-own p.labels side x true known in let both = h.labels x in grind arith;
    }
link-has false side p known =
    let h = exact_claim-common p (side_claim side) side known (has-own side) in
    record {
      cost = omega (arith, h.cost);
      labels = λ x. let own = at-own p.labels side x true known in let both = h.labels x in grind arith;
    }

-- the exact claim of a side leaf and a node whose set lacks the side label
link-lacks : (bit : Bool) (side : Label) (p : Claim) → has_label p.labels side ≡ false →
    IsSameClaim (record { cost = p.cost + 1; labels = side ∷ p.labels }) (link_claim bit side p)
link-lacks true side p known =
    let h = exact_claim-apart (side_claim side) p
    (λ x. let own = at-own p.labels side x false known in grind arith) in
    record {
      cost = omega (arith, h.cost);
      labels = λ x. let either = h.labels x in grind arith;
    }
link-lacks false side p known =
    let h = exact_claim-apart p (side_claim side)
    (λ x. let own = at-own p.labels side x false known in grind arith) in
    record {
      cost = omega (arith, h.cost);
      labels = λ x. let either = h.labels x in grind arith;
    }

-- the exact claims of links of the same claims are the same
same-link : (bit : Bool) (side : Label) (p r : Claim) → IsSameClaim p r → IsSameClaim (link_claim bit side p) (link_claim bit side r)
same-link true side p r same = same-exact_claim (side_claim side) p (side_claim side) r (same-itself (side_claim side)) same
same-link false side p r same = same-exact_claim p (side_claim side) r (side_claim side) same (same-itself (side_claim side))

-- the exact claim of a chain of one bit is that of its link
claim-first : (bit : Bool) (side : Label) (e : Claim) → IsSameClaim (chain_claim (suc zero) side e) (link_claim bit side e)
claim-first bit side e = by_test (has_label e.labels side) refl
  where
    by_test : (b : Bool) → has_label e.labels side ≡ b →
        IsSameClaim
        (cond b (record { cost = e.cost; labels = side ∷ [] }) (record { cost = e.cost + 1; labels = side ∷ e.labels }))
        (link_claim bit side e)
    by_test true known = link-has bit side e known
    by_test false known = link-lacks bit side e known

-- the exact set of a chain with a bit has the side label
has-chain_labels : (n : ℕ) (side : Label) (s : List Label) → has_label (chain_labels (suc n) side s) side ≡ true
has-chain_labels zero side s = has-head side s
has-chain_labels (suc n) side s = has-own side

-- the exact claim of a chain with one more bit is that of its first link
claim-more : (bit : Bool) (n : ℕ) (side : Label) (e : Claim) →
    IsSameClaim (chain_claim (suc (suc n)) side e) (link_claim bit side (chain_claim (suc n) side e))
claim-more bit n side e = by_test (has_label e.labels side)
  where
    by_test : (b : Bool) →
        IsSameClaim
        (cond b (record { cost = e.cost; labels = side ∷ [] }) (record { cost = e.cost + 1; labels = side ∷ [] }))
        (link_claim bit side
        (cond b (record { cost = e.cost; labels = side ∷ [] })
        (record { cost = e.cost + 1; labels = chain_labels (suc n) side e.labels })))
    by_test true = link-has bit side (record { cost = e.cost; labels = side ∷ [] }) (has-own side)
    by_test false =
        link-has bit side (record { cost = e.cost + 1; labels = chain_labels (suc n) side e.labels })
        (has-chain_labels n side e.labels)

-- the exact claim of a chain in one step is the exact claim taken bit by bit
pub claim-by_bits : (bit : Bool) (bits : List Bool) (side : Label) (e : Claim) →
    IsSameClaim (chain_claim (length (bit ∷ bits)) side e) (claim_by_bits (bit ∷ bits) side e)
claim-by_bits bit [] side e = claim-first bit side e
claim-by_bits bit (next ∷ bits) side e =
    same-then (chain_claim (length (bit ∷ next ∷ bits)) side e) (link_claim bit side (chain_claim (length (next ∷ bits)) side e))
    (claim_by_bits (bit ∷ next ∷ bits) side e)
    (claim-more bit (length bits) side e)
    (same-link bit side (chain_claim (length (next ∷ bits)) side e) (claim_by_bits (next ∷ bits) side e) (claim-by_bits next bits side e))

-- an opened node claims the same as the node
claim-link : (claim : Claim) (bit : Bool) (side : Label) (t : Tree) → claim_of (link claim bit side t) ≡ claim
claim-link claim true side t = refl
claim-link claim false side t = refl

claim-chain_opened : (claim : Claim) (bits : List Bool) (side : Label) (t : Tree) → 0 < length bits →
    claim_of (chain_opened claim bits side t) ≡ claim
claim-chain_opened claim [] side t some = absurd (omega arith)
claim-chain_opened claim (bit ∷ bits) side t some = claim-link claim bit side (links bits side t)

pub claim-opened : (m : MapModel) (ps : List Prefix) (t : Tree) (n q : ℕ) → IsNodeAccepted m ps t n q →
    claim_of (opened_tree t) ≡ claim_of t
claim-opened m ps (LeafNode x) n q h = refl
claim-opened m ps (InnerNode claim lower upper) n q h = refl
claim-opened m ps (ChainNode claim bits side end) n q h = claim-chain_opened claim bits side (opened_tree end) h.0

-- a claim that is within a claim is within one that is the same
pub within-same_claim : (claim e e' : Claim) → IsSameClaim e e' → IsWithinExact claim e → IsWithinExact claim e'
within-same_claim claim e e' same within = record {
  cost = omega (arith, same.cost, within.cost);
  labels = λ cost x h. within.labels (cost ∙ sym same.cost) x (subst IsTrue (sym (same.labels x)) h);
}

pub within-itself : (e : Claim) → IsWithinExact e e
within-itself e = record { cost = omega arith; labels = λ cost x h. h }

-- the exact claim of a chain is that of its first link, over the end itself or the next link
claim-links : (bit : Bool) (bits : List Bool) (side : Label) (t : Tree) →
    IsSameClaim (chain_claim (suc (length bits)) side (claim_of t)) (link_claim bit side (claim_of (links bits side t)))
claim-links bit [] side t = claim-first bit side (claim_of t)
claim-links bit (next ∷ bits) side t =
    subst (λ (p : Claim). IsSameClaim (chain_claim (suc (length (next ∷ bits))) side (claim_of t)) (link_claim bit side p))
    (sym (claim-link (chain_claim (suc (length bits)) side (claim_of t)) next side (links bits side t)))
    (claim-more bit (length bits) side (claim_of t))

module _ (m : MapModel) (ps : List Prefix) (side : Label) where
  -- a link is accepted if its leaf, its other node and its claim are
  link-accepted : (claim : Claim) (bit : Bool) (t : Tree) (n q : ℕ) → n < width_of m.version →
      IsLeafAccepted m ps side (suc n) (side_half bit q) → IsNodeAccepted m ps t (suc n) (chosen_half bit q) →
      IsWithinExact claim (link_claim bit side (claim_of t)) → IsNodeAccepted m ps (link claim bit side t) n q
  link-accepted claim true t n q below leaf node within = (below, leaf, node, within)
  link-accepted claim false t n q below leaf node within = (below, node, leaf, within)

  -- the links above an accepted end are accepted
  links-accepted : (bits : List Bool) (t : Tree) (n q : ℕ) → AreBitsAccepted m ps side (IsNodeAccepted m ps t) bits n q →
      IsNodeAccepted m ps (links bits side t) n q
  links-accepted [] t n q h = h
  links-accepted (bit ∷ bits) t n q h =
      link-accepted (chain_claim (suc (length bits)) side (claim_of t)) bit (links bits side t) n q h.0 h.1
      (links-accepted bits t (suc n) (chosen_half bit q) h.2)
      (within-same_claim (chain_claim (suc (length bits)) side (claim_of t)) (chain_claim (suc (length bits)) side (claim_of t))
      (link_claim bit side (claim_of (links bits side t))) (claim-links bit bits side t)
      (within-itself (chain_claim (suc (length bits)) side (claim_of t))))

  -- the topmost link of an opened chain, which has the chain's claim, is accepted
  top-accepted : (claim : Claim) (bits : List Bool) (t : Tree) (n q : ℕ) → 0 < length bits →
      AreBitsAccepted m ps side (IsNodeAccepted m ps t) bits n q →
      IsWithinExact claim (chain_claim (length bits) side (claim_of t)) →
      IsNodeAccepted m ps (chain_opened claim bits side t) n q
  top-accepted claim [] t n q some h within = absurd (omega arith)
  top-accepted claim (bit ∷ bits) t n q some h within =
      link-accepted claim bit (links bits side t) n q h.0 h.1 (links-accepted bits t (suc n) (chosen_half bit q) h.2)
      (within-same_claim claim (chain_claim (suc (length bits)) side (claim_of t))
      (link_claim bit side (claim_of (links bits side t))) (claim-links bit bits side t) within)

  -- a weaker condition at the end of an accepted path may replace the given one
  pub bits-end : (IsEnd IsOther : ℕ → ℕ → Type 0) → ((n q : ℕ) → IsEnd n q → IsOther n q) → (bits : List Bool) (n q : ℕ) →
      AreBitsAccepted m ps side IsEnd bits n q → AreBitsAccepted m ps side IsOther bits n q
  bits-end IsEnd IsOther other [] n q h = other n q h
  bits-end IsEnd IsOther other (bit ∷ bits) n q h =
      (h.0, h.1, bits-end IsEnd IsOther other bits (suc n) (chosen_half bit q) h.2)

  -- an accepted path ends at some block that meets the condition
  at-end : (IsEnd : ℕ → ℕ → Type 0) (bits : List Bool) (n q : ℕ) → AreBitsAccepted m ps side IsEnd bits n q →
      (n' : ℕ) × (q' : ℕ) × IsEnd n' q'
  at-end IsEnd [] n q h = (n, q, h)
  at-end IsEnd (bit ∷ bits) n q h = at-end IsEnd bits (suc n) (chosen_half bit q) h.2

-- an accepted node is accepted with its chains opened
pub opened-node : (m : MapModel) (ps : List Prefix) (t : Tree) (n q : ℕ) → IsNodeAccepted m ps t n q →
    IsNodeAccepted m ps (opened_tree t) n q
opened-node m ps (LeafNode x) n q h = h
opened-node m ps (InnerNode claim lower upper) n q h = (
  h.0,
  opened-node m ps lower (suc n) (2 * q) h.1,
  opened-node m ps upper (suc n) (2 * q + 1) h.2,
  subst (IsWithinExact claim)
      (ap₂ exact_claim (sym (claim-opened m ps lower (suc n) (2 * q) h.1)) (sym (claim-opened m ps upper (suc n) (2 * q + 1) h.2))) h.3,
)
opened-node m ps (ChainNode claim bits side end) n q h =
    let last = at-end m ps side (IsNodeAccepted m ps end) bits n q h.1 in
    top-accepted m ps side claim bits (opened_tree end) n q h.0
    (bits-end m ps side (IsNodeAccepted m ps end) (IsNodeAccepted m ps (opened_tree end)) (opened-node m ps end) bits n q h.1)
    (subst (λ (p : Claim). IsWithinExact claim (chain_claim (length bits) side p)) (sym (claim-opened m ps end last.0 last.1 last.2)) h.2)

-- an opened tree has no chain
plain-links : (bits : List Bool) (side : Label) (t : Tree) → IsPlain t → IsPlain (links bits side t)
plain-links [] side t h = h
plain-links (true ∷ bits) side t h = (tt, plain-links bits side t h)
plain-links (false ∷ bits) side t h = (plain-links bits side t h, tt)

plain-chain_opened : (claim : Claim) (bits : List Bool) (side : Label) (t : Tree) → IsPlain t → IsPlain (chain_opened claim bits side t)
plain-chain_opened claim [] side t h = h
plain-chain_opened claim (true ∷ bits) side t h = (tt, plain-links bits side t h)
plain-chain_opened claim (false ∷ bits) side t h = (plain-links bits side t h, tt)

pub opened-plain : (t : Tree) → IsPlain (opened_tree t)
opened-plain (LeafNode x) = tt
opened-plain (InnerNode claim lower upper) = (opened-plain lower, opened-plain upper)
opened-plain (ChainNode claim bits side end) = plain-chain_opened claim bits side (opened_tree end) (opened-plain end)

-- an accepted certificate is accepted with its chains opened
pub opened-accepted : (m : MapModel) (l : ListModel) (c : CertificateModel) → IsAccepted m l c → IsAccepted m l (opened_certificate c)
opened-accepted m l c h = record {
  list_version = h.list_version;
  certificate_version = h.certificate_version;
  root = opened-node m l.prefixes c.root 0 0 h.root;
  count = subst (λ (p : Claim). length l.prefixes ≤ p.cost + 1) (sym (claim-opened m l.prefixes c.root 0 0 h.root)) h.count;
}
