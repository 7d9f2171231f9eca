use Rattle.std.proofs.Common.{◌≡◌, ℕ, zero, suc, ◌+◌, ◌-◌, ◌*◌, ◌/◌, ◌^◌, ◌<◌, ◌≤◌, Bool, true, cond, List, [], ◌∷◌, Option, Some, None, arith, sym, refl, ap, ◌∙◌, subst, pow-suc}
use Rattle.prefix_keys.specs.Block.{block_number, first_of, width_of}
use Rattle.pmap_model.specs.ListModel.{Prefix, label_below}
use Rattle.pmap_model.specs.MapModel.{IsSettled, Label, MapModel, map_label}
use Rattle.pmap_cert.specs.Acceptance.{IsNodeAccepted, IsWithinExact}
use Rattle.pmap_cert.specs.CertificateModel.{ChainNode, InnerNode, LeafNode, Claim, Tree, claim_of, IsPlain, exact_claim}
use Rattle.pmap_model.proofs.Blocks.{block_number-first_of, block_number-half, first_of-below, first_of-lower}
use Rattle.pmap_cert.proofs.Counts.{count_of, count_of-halves, is_at, is_within}
use Rattle.pmap_cert.proofs.Longest.{label_at-none, label_below-same, label_below-within}
use Rattle.pmap_cert.proofs.Sets.{exact_claim-cost, has-own, miss, miss-le}
use Rattle.pmap_model.proofs.Settled.{map_label-settled}
use Rattle.pmap_model.specs.Label.{has_label}
use Rattle.pmap_model.proofs.ListLabels.{label_of_length}

-- The bound: a list that labels a block's addresses as the map does has at least as many entries there as an accepted
-- node claims, and one more if the claim's set lacks the inherited label, or none is inherited.

-- a claim within the exact claim costs no more, with the inherited label
claim-miss : (k k' : ℕ) (a b : Bool) → k ≤ k' → (k ≡ k' → b ≡ true → a ≡ true) → k + cond a 0 1 ≤ k' + cond b 0 1
claim-miss k k' a b le h = grind arith

pub claim-cost : (claim e : Claim) (h : Option Label) → IsWithinExact claim e →
    claim.cost + miss h claim.labels ≤ e.cost + miss h e.labels
claim-cost claim e None within = omega (arith, within.cost)
claim-cost claim e (Some x) within =
    claim-miss claim.cost e.cost (has_label claim.labels x) (has_label e.labels x) within.cost (λ same. within.labels same x)

-- an entry for the block itself pays for a change of the inherited label
own-miss : (W : ℕ) (ps : List Prefix) (n q a : ℕ) (s : List Label) → block_number W n a ≡ q →
    miss (label_below W ps n a) s ≤ count_of (is_at W n q) ps + miss (label_below W ps (suc n) a) s
own-miss W ps n q a s e = by_count (count_of (is_at W n q) ps) refl
  where
    by_count : (k : ℕ) → count_of (is_at W n q) ps ≡ k →
        miss (label_below W ps n a) s ≤ count_of (is_at W n q) ps + miss (label_below W ps (suc n) a) s
    by_count zero none =
        let here : label_of_length W ps n a ≡ None =
        label_at-none W ps n a (is_at W n q)
        (λ p c. subst (λ (i : ℕ). is_at W n i p ≡ true) e c) none in
        rw here (omega arith)
    by_count (suc k) some = let one = miss-le (label_below W ps n a) s in omega arith

-- the number of the upper half is below the bound for its length
upper-below : (n q : ℕ) → q < 2 ^ n → 2 * q + 1 < 2 ^ suc n
upper-below n q below = let e = pow-suc 2 n in omega arith

-- the first address of the upper half is in the block
first_of-upper : (W n q : ℕ) → n < W → block_number W n (first_of W (suc n) (2 * q + 1)) ≡ q
first_of-upper W n q below =
    let h = block_number-half W n (first_of W (suc n) (2 * q + 1)) below in
    let f = block_number-first_of W (suc n) (2 * q + 1) in
    let g : block_number W (suc n) (first_of W (suc n) (2 * q + 1)) / 2 ≡ (2 * q + 1) / 2 = ap (λ (i : ℕ). i / 2) f in
    omega arith

-- if no entry lies within a block, its first address has the inherited label
label_below-alone : (W : ℕ) (ps : List Prefix) (n q : ℕ) → n ≤ W → count_of (is_within W n q) ps ≡ 0 →
    label_below W ps (suc W) (first_of W n q) ≡ label_below W ps n (first_of W n q)
label_below-alone W ps n q le none =
    let e : suc W ≡ n + (suc W - n) = omega arith in
    ap (λ (j : ℕ). label_below W ps j (first_of W n q)) e
    ∙ label_below-within W ps n (suc W - n) q (first_of W n q) (omega arith) (block_number-first_of W n q) none

-- both halves inherit the label that the block passes on
pub label_below-lower : (W : ℕ) (ps : List Prefix) (n q : ℕ) → n < W →
    label_below W ps (suc n) (first_of W (suc n) (2 * q)) ≡ label_below W ps (suc n) (first_of W n q)
label_below-lower W ps n q below = ap (label_below W ps (suc n)) (first_of-lower W n q below)

pub label_below-upper : (W : ℕ) (ps : List Prefix) (n q : ℕ) → n < W →
    label_below W ps (suc n) (first_of W (suc n) (2 * q + 1)) ≡ label_below W ps (suc n) (first_of W n q)
label_below-upper W ps n q below =
    label_below-same W ps n (first_of W (suc n) (2 * q + 1)) (first_of W n q) (omega arith)
    (first_of-upper W n q below ∙ sym (block_number-first_of W n q))

-- the bound at a block from the bounds at its halves
halves-bound : (W : ℕ) (ps : List Prefix) (n q : ℕ) (claim p r : Claim) → n < W → IsWithinExact claim (exact_claim p r) →
    p.cost + miss (label_below W ps (suc n) (first_of W (suc n) (2 * q))) p.labels ≤ count_of (is_within W (suc n) (2 * q)) ps →
    r.cost + miss (label_below W ps (suc n) (first_of W (suc n) (2 * q + 1))) r.labels ≤ count_of (is_within W (suc n) (2 * q + 1)) ps →
    claim.cost + miss (label_below W ps n (first_of W n q)) claim.labels ≤ count_of (is_within W n q) ps
halves-bound W ps n q claim p r below within lower upper =
    let h : Option Label = label_below W ps (suc n) (first_of W n q) in
    let lower' : p.cost + miss (label_below W ps (suc n) (first_of W n q)) p.labels ≤ count_of (is_within W (suc n) (2 * q)) ps =
    subst (λ (o : Option Label). p.cost + miss o p.labels ≤ count_of (is_within W (suc n) (2 * q)) ps) (label_below-lower W ps n q below) lower in
    let upper' : r.cost + miss (label_below W ps (suc n) (first_of W n q)) r.labels ≤ count_of (is_within W (suc n) (2 * q + 1)) ps =
    subst (λ (o : Option Label). r.cost + miss o r.labels ≤ count_of (is_within W (suc n) (2 * q + 1)) ps) (label_below-upper W ps n q below) upper in
    omega (
      arith,
      count_of-halves W n q below ps,
      own-miss W ps n q (first_of W n q) claim.labels (block_number-first_of W n q),
      claim-cost claim (exact_claim p r) (label_below W ps (suc n) (first_of W n q)) within,
      exact_claim-cost p r (label_below W ps (suc n) (first_of W n q)),
      lower',
      upper',
    )

at-most : (count missed : ℕ) → missed ≤ 1 → (count ≡ 0 → missed ≡ 0) → missed ≤ count
at-most count missed le none = grind arith

-- A map, the list that the node is accepted for, and any list that labels every address as the map does.
module _ (m : MapModel) (es ps : List Prefix)
    (right : (a : ℕ) → a < 2 ^ width_of m.version →
    label_below (width_of m.version) ps (suc (width_of m.version)) a ≡ Some (map_label m a)) where
  -- if no entry lies within the block of a leaf, the inherited label is the leaf's
  leaf-miss : (x : Label) (n q : ℕ) → n ≤ width_of m.version → q < 2 ^ n → IsSettled m n q x →
      count_of (is_within (width_of m.version) n q) ps ≡ 0 →
      miss (label_below (width_of m.version) ps n (first_of (width_of m.version) n q)) (x ∷ []) ≡ 0
  leaf-miss x n q le below settled none =
      let handed : label_below (width_of m.version) ps n (first_of (width_of m.version) n q) ≡ Some x =
      sym (label_below-alone (width_of m.version) ps n q le none)
      ∙ right (first_of (width_of m.version) n q) (first_of-below (width_of m.version) n q le below)
      ∙ ap Some (map_label-settled m n q (first_of (width_of m.version) n q) x (block_number-first_of (width_of m.version) n q) settled) in
      rw (handed, has-own x)

  leaf-bound : (x : Label) (n q : ℕ) → n ≤ width_of m.version → q < 2 ^ n → IsSettled m n q x →
      miss (label_below (width_of m.version) ps n (first_of (width_of m.version) n q)) (x ∷ [])
      ≤ count_of (is_within (width_of m.version) n q) ps
  leaf-bound x n q le below settled =
      at-most (count_of (is_within (width_of m.version) n q) ps)
      (miss (label_below (width_of m.version) ps n (first_of (width_of m.version) n q)) (x ∷ []))
      (miss-le (label_below (width_of m.version) ps n (first_of (width_of m.version) n q)) (x ∷ []))
      (leaf-miss x n q le below settled)

  -- the bound at a node of a tree without chains
  pub kernel : (t : Tree) (n q : ℕ) → IsPlain t → n ≤ width_of m.version → q < 2 ^ n → IsNodeAccepted m es t n q →
      (claim_of t).cost + miss (label_below (width_of m.version) ps n (first_of (width_of m.version) n q)) (claim_of t).labels
      ≤ count_of (is_within (width_of m.version) n q) ps
  kernel (LeafNode x) n q plain le below h = let k = leaf-bound x n q le below h.0 in omega arith
  kernel (ChainNode claim bits side end) n q plain le below h = absurd plain
  kernel (InnerNode claim lower upper) n q plain le below h =
      halves-bound (width_of m.version) ps n q claim (claim_of lower) (claim_of upper) h.0 h.3
      (kernel lower (suc n) (2 * q) plain.0 h.0 (omega (arith, upper-below n q below)) h.1)
      (kernel upper (suc n) (2 * q + 1) plain.1 h.0 (upper-below n q below) h.2)
