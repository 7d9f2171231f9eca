use Rattle.std.proofs.Common.{◌≡◌, ℕ, suc, ◌+◌, ◌*◌, ◌/◌, ◌<◌, ◌≤◌, Bool, true, false, cond, ◌&&◌, ◌==◌, List, [], ◌∷◌, ◌++◌, Option, arith, filter, length, nat_le, sym, refl, ap, ◌∙◌, length-append, eq-eqb, le-leb, le_refl}
use Rattle.std.specs.List.{AllByRecursion}
use Rattle.std.proofs.lemmas.Bool.{and_from}
use Rattle.std.proofs.lemmas.Bool.Decides.{nat_tests}
use Rattle.prefix_keys.specs.Block.{block_number, first_of, width_of}
use Rattle.pmap_model.specs.ListModel.{Prefix}
use Rattle.pmap_model.specs.MapModel.{Label, MapModel}
use Rattle.pmap_cert.specs.CertificateModel.{ChainNode, InnerNode, LeafNode, Claim, Tree, claim_of, IsSameClaim, exact_claim}
use Rattle.pmap_cert.specs.Acceptance.{StandsFor, entries_of, handed_on, has_inherited, least_label, own_entry}
use Rattle.pmap_model.proofs.Blocks.{block_number-first_of, block_number-half}
use Rattle.pmap_cert.proofs.Counts.{is_within}
use Rattle.pmap_cert.proofs.Filters.{all-append, all-weaker}
use Rattle.pmap_cert.proofs.Handed.{IsInhabited, exact_claim-cost_of, handed_on-has, inhabited}
use Rattle.pmap_cert.proofs.Sets.{miss, same-listed}
use Rattle.pmap_model.proofs.Settled.{unsettled-halves}

-- The entries of a node that represents a block: their number, and that they lie within the block.

-- a node has an own entry exactly if its set lacks the inherited label
length-own_entry : (W : ℕ) (table s : List Label) (h : Option Label) (n q : ℕ) →
    length (own_entry W table s h n q) ≡ miss h s
length-own_entry W table s h n q = by_test (has_inherited s h) (record { start = first_of W n q; bits = n; label = least_label table s })
  where
    by_test : (b : Bool) (p : Prefix) → length (cond b [] (p ∷ [])) ≡ cond b 0 1
    by_test true p = refl
    by_test false p = refl

-- the cost of a node that passes on a label of its set is the number of entries of its halves
halves-cost : (table : List Label) (claim p r : Claim) (h : Option Label) → IsInhabited claim.labels →
    IsSameClaim claim (exact_claim p r) →
    claim.cost ≡ p.cost + miss (handed_on table claim.labels h) p.labels + (r.cost + miss (handed_on table claim.labels h) r.labels)
halves-cost table claim p r h some same =
    let handed = handed_on-has table claim.labels h some in
    let cost = exact_claim-cost_of p r handed.0 (sym (same.labels handed.0) ∙ handed.2) in
    rw handed.1 (same.cost ∙ cost)

-- a node has as many entries as it costs, and one more if its set lacks the inherited label
pub length-entries_of : (m : MapModel) (table : List Label) (t : Tree) (h : Option Label) (n q : ℕ) → StandsFor m t n q →
    length (entries_of (width_of m.version) table t h n q) ≡ (claim_of t).cost + miss h (claim_of t).labels
length-entries_of m table (LeafNode x) h n q stands = length-own_entry (width_of m.version) table (x ∷ []) h n q ∙ omega arith
length-entries_of m table (ChainNode p bits side end) h n q stands = absurd stands
length-entries_of m table (InnerNode claim lower upper) h n q stands =
    omega (
      arith,
      length-append (own_entry (width_of m.version) table claim.labels h n q)
          (entries_of (width_of m.version) table lower (handed_on table claim.labels h) (suc n) (2 * q)
          ++ entries_of (width_of m.version) table upper (handed_on table claim.labels h) (suc n) (2 * q + 1)),
      length-append (entries_of (width_of m.version) table lower (handed_on table claim.labels h) (suc n) (2 * q))
          (entries_of (width_of m.version) table upper (handed_on table claim.labels h) (suc n) (2 * q + 1)),
      length-own_entry (width_of m.version) table claim.labels h n q,
      length-entries_of m table lower (handed_on table claim.labels h) (suc n) (2 * q) stands.2,
      length-entries_of m table upper (handed_on table claim.labels h) (suc n) (2 * q + 1) stands.3,
      halves-cost table claim (claim_of lower) (claim_of upper) h (inhabited m (InnerNode claim lower upper) n q stands)
          (same-listed m.table claim (exact_claim (claim_of lower) (claim_of upper)) stands.1),
    )

-- a node's own entry is within its block
own-within : (W n q : ℕ) (x : Label) → is_within W n q (record { start = first_of W n q; bits = n; label = x }) ≡ true
own-within W n q x =
    and_from (nat_le n n) (block_number W n (first_of W n q) == q) (le-leb n n (le_refl n))
    (eq-eqb (block_number W n (first_of W n q)) q (block_number-first_of W n q))

-- an entry within a half is within the block
within-half : (n k b q i : ℕ) → i / 2 ≡ q → (nat_le (suc n) k && b == i) ≡ true → (nat_le n k && b / 2 == q) ≡ true
within-half n k b q i e h = grind (arith, nat_tests)

pub is_within-half : (W n q i : ℕ) → n < W → i / 2 ≡ q → (p : Prefix) → is_within W (suc n) i p ≡ true → is_within W n q p ≡ true
is_within-half W n q i below e p h =
    let half : block_number W n p.start ≡ block_number W (suc n) p.start / 2 = block_number-half W n p.start below in
    rw half (within-half n p.bits (block_number W (suc n) p.start) q i e h)

-- what holds of a node's own entry holds of each entry in its list, which has at most this one
pub own-all : (W : ℕ) (table : List Label) (P : Prefix → Type 0) (s : List Label) (h : Option Label) (n q : ℕ) →
    P (record { start = first_of W n q; bits = n; label = least_label table s }) → AllByRecursion P (own_entry W table s h n q)
own-all W table P s h n q is = by (has_inherited s h) (record { start = first_of W n q; bits = n; label = least_label table s }) is
  where
    by : (b : Bool) (p : Prefix) → P p → AllByRecursion P (cond b [] (p ∷ []))
    by true p is = tt
    by false p is = (is, tt)

-- the entries of a node lie within its block
pub within-entries : (m : MapModel) (table : List Label) (t : Tree) (h : Option Label) (n q : ℕ) → n ≤ width_of m.version → StandsFor m t n q →
    AllByRecursion (λ p. is_within (width_of m.version) n q p ≡ true) (entries_of (width_of m.version) table t h n q)
within-entries m table (LeafNode x) h n q le stands =
    own-all (width_of m.version) table (λ p. is_within (width_of m.version) n q p ≡ true) (x ∷ []) h n q
    (own-within (width_of m.version) n q (least_label table (x ∷ [])))
within-entries m table (ChainNode p bits side end) h n q le stands = absurd stands
within-entries m table (InnerNode claim lower upper) h n q le stands =
    let W : ℕ = width_of m.version in
    let below : n < W = unsettled-halves m n q le stands.0 in
    let on : Option Label = handed_on table claim.labels h in
    let Within : ℕ → ℕ → Prefix → Type 0 = λ n q p. is_within W n q p ≡ true in
    all-append (Within n q) (own_entry W table claim.labels h n q)
    (entries_of W table lower on (suc n) (2 * q) ++ entries_of W table upper on (suc n) (2 * q + 1))
    (own-all W table (Within n q) claim.labels h n q (own-within W n q (least_label table claim.labels)))
    (all-append (Within n q) (entries_of W table lower on (suc n) (2 * q)) (entries_of W table upper on (suc n) (2 * q + 1))
    (all-weaker (Within (suc n) (2 * q)) (Within n q) (is_within-half W n q (2 * q) below (omega arith))
    (entries_of W table lower on (suc n) (2 * q)) (within-entries m table lower on (suc n) (2 * q) below stands.2))
    (all-weaker (Within (suc n) (2 * q + 1)) (Within n q) (is_within-half W n q (2 * q + 1) below (omega arith))
    (entries_of W table upper on (suc n) (2 * q + 1)) (within-entries m table upper on (suc n) (2 * q + 1) below stands.3)))

-- a test with one result for all entries keeps all of them, or none
filter-alike : (test : Prefix → Bool) (b : Bool) (ps : List Prefix) → AllByRecursion (λ p. test p ≡ b) ps → filter test ps ≡ cond b ps []
filter-alike test true [] all = refl
filter-alike test false [] all = refl
filter-alike test true (p ∷ ps) all = rw all.0 (ap (λ (qs : List Prefix). p ∷ qs) (filter-alike test true ps all.1))
filter-alike test false (p ∷ ps) all = rw all.0 (filter-alike test false ps all.1)

pub filter-own_entry : (W : ℕ) (table : List Label) (test : Prefix → Bool) (b : Bool) (s : List Label) (h : Option Label) (n q : ℕ) →
    ((x : Label) → test (record { start = first_of W n q; bits = n; label = x }) ≡ b) →
    filter test (own_entry W table s h n q) ≡ cond b (own_entry W table s h n q) []
filter-own_entry W table test b s h n q own =
    filter-alike test b (own_entry W table s h n q) (own-all W table (λ p. test p ≡ b) s h n q (own (least_label table s)))

pub filter-entries_of : (m : MapModel) (table : List Label) (test : Prefix → Bool) (b : Bool) (t : Tree) (h : Option Label) (n q : ℕ) →
    n ≤ width_of m.version → StandsFor m t n q → ((p : Prefix) → is_within (width_of m.version) n q p ≡ true → test p ≡ b) →
    filter test (entries_of (width_of m.version) table t h n q) ≡ cond b (entries_of (width_of m.version) table t h n q) []
filter-entries_of m table test b t h n q le stands alike =
    filter-alike test b (entries_of (width_of m.version) table t h n q)
    (all-weaker (λ p. is_within (width_of m.version) n q p ≡ true) (λ p. test p ≡ b) alike
    (entries_of (width_of m.version) table t h n q) (within-entries m table t h n q le stands))
