-- The entries of a minimal pair are blocks in order, with labels of the table.
use Rattle.std.proofs.Common.{◌≡◌, ℕ, suc, ◌+◌, ◌-◌, ◌*◌, ◌^◌, ◌<◌, ◌≤◌, ◌==◌, ◌&&◌, ◌⊎◌, inl, inr, Bool, true, false, cond, List, [], ◌∷◌, ◌++◌, Option, None, All, IsTrue, nat_le, nat_lt, refl, sym, subst, arith, pow-suc, pow_pos}
use Rattle.std.specs.List.{AllByRecursion}
use Rattle.std.proofs.lemmas.Bool.{and_parts, and_from, cases_lt, eq-eqb, eqb-true, leb-true, lt-ltb, or_left, or_right}
use Rattle.std.proofs.lemmas.List.Elements.{All-from_recursion}
use Rattle.std.proofs.Math.Nat.{mul-mod_left}
use Rattle.prefix_keys.specs.Block.{block_number, first_of, last_of, width_of}
use Rattle.pmap_model.specs.ListModel.{ListModel, Prefix}
use Rattle.pmap_model.specs.MapModel.{Label, MapModel}
use Rattle.pmap_cert.specs.CertificateModel.{CertificateModel, ChainNode, InnerNode, LeafNode, Tree, claim_of}
use Rattle.pmap_cert.specs.Acceptance.{HasBlock, HasListForm, IsInOrder, begins_before, HasItsLabels, IsMinimalPair, StandsFor, entries_of, handed_on, has_inherited, least_label, own_entry}
use Rattle.pmap_cert.proofs.Alike.{table-node}
use Rattle.pmap_model.proofs.Blocks.{address-first, address-last, first_of-below, first_of-lower}
use Rattle.pmap_cert.proofs.Counts.{is_within}
use Rattle.pmap_cert.proofs.Entries.{own-all, within-entries}
use Rattle.pmap_cert.proofs.Filters.{all-append, all-weaker}
use Rattle.pmap_cert.proofs.Handed.{has-least_label, inhabited}
use Rattle.pmap_model.proofs.Settled.{unsettled-halves}
use Rattle.pmap_model.specs.Label.{has_label}

-- two lists in order are in order when joined if each entry of the first comes before each of the second
in_order-append : (P Q : Prefix → Type 0) → ((p r : Prefix) → P p → Q r → begins_before p r ≡ true) → (xs ys : List Prefix)
    → IsInOrder xs → IsInOrder ys → AllByRecursion P xs → AllByRecursion Q ys → IsInOrder (xs ++ ys)
in_order-append P Q before [] ys ordered more all rest = more
in_order-append P Q before (x ∷ xs) ys ordered more all rest = (
  all-append (λ r. IsTrue (begins_before x r)) xs ys ordered.0 (all-weaker Q (λ r. IsTrue (begins_before x r)) (λ r q. before x r all.0 q) ys rest),
  in_order-append P Q before xs ys ordered.1 more all.1 rest,
)

-- an entry with a lower start comes first, and so does one with the same start and fewer bits
before-lower : (p r : Prefix) → p.start < r.start → begins_before p r ≡ true
before-lower p r h = or_left (nat_lt p.start r.start) (p.start == r.start && nat_lt p.bits r.bits) (lt-ltb _ _ h)

before-shorter : (p r : Prefix) → p.start ≤ r.start → p.bits < r.bits → begins_before p r ≡ true
before-shorter p r h k = by (cases_lt p.start r.start)
  where
    by : (p.start < r.start) ⊎ (r.start ≤ p.start) → begins_before p r ≡ true
    by (inl lower) = before-lower p r lower
    by (inr same) =
        or_right (nat_lt p.start r.start) (p.start == r.start && nat_lt p.bits r.bits)
        (and_from (p.start == r.start) (nat_lt p.bits r.bits) (eq-eqb _ _ (omega arith)) (lt-ltb _ _ k))

module _ (m : MapModel) (table : List Label) where
  abbrev W : ℕ
  W = width_of m.version

  -- the entry starts in the block and has at least as many bits
  abbrev Inside : ℕ → ℕ → Prefix → Type 0
  Inside n q p = (first_of W n q ≤ p.start) × (p.start ≤ last_of W n q) × (n ≤ p.bits)

  inside-within : (n q : ℕ) (p : Prefix) → is_within W n q p ≡ true → Inside n q p
  inside-within n q p h =
      let parts = and_parts (nat_le n p.bits) (block_number W n p.start == q) h in
      let number = eqb-true _ _ parts.1 in
      (address-first W n q p.start number, address-last W n q p.start number, leb-true _ _ parts.0)

  inside : (t : Tree) (h : Option Label) (n q : ℕ) → n ≤ W → StandsFor m t n q → AllByRecursion (Inside n q) (entries_of W table t h n q)
  inside t h n q le stands = all-weaker (λ p. is_within W n q p ≡ true) (Inside n q) (inside-within n q) (entries_of W table t h n q) (within-entries m table t h n q le stands)

  own-order : (s : List Label) (h : Option Label) (n q : ℕ) → IsInOrder (own_entry W table s h n q)
  own-order s h n q = by (has_inherited s h) (record { start = first_of W n q; bits = n; label = least_label table s })
    where
      by : (b : Bool) (p : Prefix) → IsInOrder (cond b [] (p ∷ []))
      by true p = tt
      by false p = (tt, tt)

  -- the entry has this very block
  abbrev AtStart : ℕ → ℕ → Prefix → Type 0
  AtStart n q p = (p.start ≡ first_of W n q) × (p.bits ≡ n)

  abbrev Below : ℕ → ℕ → Prefix → Type 0
  Below n q p = (first_of W n q ≤ p.start) × (n < p.bits)

  lower-first : (n q : ℕ) → n < W → first_of W n q ≡ first_of W (suc n) (2 * q)
  lower-first n q h = sym (first_of-lower W n q h)

  upper-first : (n q : ℕ) → n < W → first_of W n q ≤ first_of W (suc n) (2 * q + 1)
  upper-first n q h = let e = first_of-lower W n q h in let some : 0 < 2 ^ (W - suc n) = pow_pos (W - suc n) in omega arith

  halves-apart : (n q : ℕ) → last_of W (suc n) (2 * q) < first_of W (suc n) (2 * q + 1)
  halves-apart n q = let some : 0 < 2 ^ (W - suc n) = pow_pos (W - suc n) in omega arith

  pub in_order : (t : Tree) (h : Option Label) (n q : ℕ) → n ≤ W → StandsFor m t n q → IsInOrder (entries_of W table t h n q)
  in_order (LeafNode x) h n q le stands = own-order (x ∷ []) h n q
  in_order (ChainNode p bits side end) h n q le stands = absurd stands
  in_order (InnerNode claim lower upper) h n q le stands =
      let below : n < W = unsettled-halves m n q le stands.0 in
      let on : Option Label = handed_on table claim.labels h in
      let low : List Prefix = entries_of W table lower on (suc n) (2 * q) in
      let up : List Prefix = entries_of W table upper on (suc n) (2 * q + 1) in
      let low_in = inside lower on (suc n) (2 * q) below stands.2 in
      let up_in = inside upper on (suc n) (2 * q + 1) below stands.3 in
      let halves : IsInOrder (low ++ up) =
      in_order-append (Inside (suc n) (2 * q)) (Inside (suc n) (2 * q + 1))
      (λ p r in_low in_up. before-lower p r (let apart = halves-apart n q in let a = in_low.1 in let b = in_up.0 in omega arith))
      low up (in_order lower on (suc n) (2 * q) below stands.2) (in_order upper on (suc n) (2 * q + 1) below stands.3) low_in up_in in
      let all_below : AllByRecursion (Below n q) (low ++ up) =
      all-append (Below n q) low up
      (all-weaker (Inside (suc n) (2 * q)) (Below n q) (λ p i. (let e = lower-first n q below in let a = i.0 in omega arith, let b = i.2 in omega arith)) low low_in)
      (all-weaker (Inside (suc n) (2 * q + 1)) (Below n q) (λ p i. (let e = upper-first n q below in let a = i.0 in omega arith, let b = i.2 in omega arith)) up up_in) in
      in_order-append (AtStart n q) (Below n q)
      (λ p r at below. before-shorter p r (let a = at.0 in let b = below.0 in omega arith) (let a = at.1 in let b = below.1 in omega arith))
      (own_entry W table claim.labels h n q) (low ++ up) (own-order claim.labels h n q) halves
      (own-all W table (AtStart n q) claim.labels h n q (refl, refl)) all_below

-- the first address of a block has no host bits
own-block : (W n q : ℕ) (x : Label) → n ≤ W → q < 2 ^ n → HasBlock W (record { start = first_of W n q; bits = n; label = x })
own-block W n q x le small = record {
  bits = le;
  start = first_of-below W n q le small;
  no_host_bit = mul-mod_left q (2 ^ (W - n));
}

own-label : (m : MapModel) → HasItsLabels m → (t : Tree) (n q : ℕ) → StandsFor m t n q → has_label m.table (least_label m.table (claim_of t).labels) ≡ true
own-label m inside t n q stands =
    table-node m inside t n q stands (least_label m.table (claim_of t).labels) (has-least_label m.table (claim_of t).labels (inhabited m t n q stands))

module _ (m : MapModel) (inside_table : HasItsLabels m) where
  abbrev FitsMap : Prefix → Type 0
  FitsMap p = HasBlock (width_of m.version) p × (has_label m.table p.label ≡ true)

  entries-fit : (t : Tree) (h : Option Label) (n q : ℕ) → n ≤ width_of m.version → q < 2 ^ n → StandsFor m t n q → AllByRecursion FitsMap (entries_of (width_of m.version) m.table t h n q)
  entries-fit (LeafNode x) h n q le small stands =
      own-all (width_of m.version) m.table FitsMap (x ∷ []) h n q (own-block (width_of m.version) n q (least_label m.table (x ∷ [])) le small, own-label m inside_table (LeafNode x) n q stands)
  entries-fit (ChainNode p bits side end) h n q le small stands = absurd stands
  entries-fit (InnerNode claim lower upper) h n q le small stands =
      let below : n < width_of m.version = unsettled-halves m n q le stands.0 in
      let on : Option Label = handed_on m.table claim.labels h in
      let double : 2 ^ suc n ≡ 2 ^ n * 2 = pow-suc 2 n in
      all-append FitsMap (own_entry (width_of m.version) m.table claim.labels h n q) _
      (own-all (width_of m.version) m.table FitsMap claim.labels h n q (own-block (width_of m.version) n q (least_label m.table claim.labels) le small, own-label m inside_table (InnerNode claim lower upper) n q stands))
      (all-append FitsMap (entries_of (width_of m.version) m.table lower on (suc n) (2 * q)) (entries_of (width_of m.version) m.table upper on (suc n) (2 * q + 1))
      (entries-fit lower on (suc n) (2 * q) below (omega arith) stands.2)
      (entries-fit upper on (suc n) (2 * q + 1) below (omega arith) stands.3))

pub list-form : (m : MapModel) (l : ListModel) (c : CertificateModel) → IsMinimalPair m l c → HasItsLabels m → HasListForm l
list-form m l c pair inside_table =
    let W : ℕ = width_of m.version in
    let entries : List Prefix = entries_of W m.table c.root None 0 0 in
    let fit = entries-fit m inside_table c.root None 0 0 (omega arith) (omega arith) pair.root in
    let order : IsInOrder l.prefixes = subst IsInOrder (sym pair.prefixes) (in_order m m.table c.root None 0 0 (omega arith) pair.root) in
    let blocks : All (HasBlock W) entries = All-from_recursion (HasBlock W) entries (all-weaker (FitsMap m inside_table) (HasBlock W) (λ p f. f.0) entries fit) in
    let labels : All (λ p. IsTrue (has_label m.table p.label)) entries =
    All-from_recursion (λ p. IsTrue (has_label m.table p.label)) entries (all-weaker (FitsMap m inside_table) (λ p. IsTrue (has_label m.table p.label)) (λ p f. f.1) entries fit) in
    record {
      order = order;
      blocks = rw (pair.list_version, pair.prefixes) blocks;
      labels = rw (pair.list_table, pair.prefixes) labels;
    }
