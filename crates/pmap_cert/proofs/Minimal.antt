use Rattle.std.proofs.Common.{◌≡◌, ℕ, suc, ◌+◌, ◌*◌, ◌<◌, ◌≤◌, Bool, true, false, cond, ◌&&◌, ◌==◌, List, [], ◌∷◌, ◌++◌, Option, Some, None, arith, filter, length, nat_le, nat_lt, option_map, slice_get, sym, refl, ap, ap₂, ◌∙◌, subst, append-nil, le_of_eq, eq-eqb, le-ltb}
use Rattle.std.specs.Option.{option_or}
use Rattle.std.proofs.lemmas.Bool.{and_from, and_left, lt-leb}
use Rattle.std.proofs.lemmas.Bool.Decides.{nat_tests}
use Rattle.prefix_keys.specs.Block.{block_number, first_of, width_of}
use Rattle.pmap_model.specs.ListModel.{ListModel, Prefix, covers, label_below, lies_inside}
use Rattle.pmap_model.specs.MapModel.{Label, MapModel}
use Rattle.pmap_cert.specs.Acceptance.{IsAccepted, ListSettles, IsNodeAccepted, IsWithinExact, IsMinimalPair, StandsFor, entries_of, handed_on, has_inherited, least_label, own_entry}
use Rattle.pmap_cert.specs.CertificateModel.{CertificateModel, ChainNode, InnerNode, LeafNode, Claim, Tree, claim_of, IsSameClaim, exact_claim}
use Rattle.pmap_model.proofs.Blocks.{block_number-first_of}
use Rattle.pmap_cert.proofs.Counts.{is_within}
use Rattle.pmap_cert.proofs.Entries.{filter-entries_of, filter-own_entry, is_within-half, length-entries_of}
use Rattle.pmap_cert.proofs.Filters.{filter-filter, filter-three, find-filter}
use Rattle.pmap_cert.proofs.Handed.{handed_on-leaf}
use Rattle.pmap_cert.proofs.Kernel.{label_below-lower, label_below-upper}
use Rattle.pmap_cert.proofs.Sets.{same-listed}
use Rattle.pmap_model.proofs.Settled.{unsettled-halves}

-- A minimal pair is accepted.

-- a node's own entry, if no other is at its block, decides the label that is passed on
label_below-own : (W : ℕ) (ps : List Prefix) (table s : List Label) (h : Option Label) (n q : ℕ) →
    filter (covers W n (first_of W n q)) ps ≡ own_entry W table s h n q → label_below W ps n (first_of W n q) ≡ h →
    label_below W ps (suc n) (first_of W n q) ≡ handed_on table s h
label_below-own W ps table s h n q own inherited =
    ap₂ option_or
    (ap (option_map (λ (p : Prefix). p.label))
    (find-filter (covers W n (first_of W n q)) ps ∙ ap (λ (xs : List Prefix). slice_get xs 0) own))
    inherited
    ∙ by_test (has_inherited s h) (record { start = first_of W n q; bits = n; label = least_label table s })
  where
    by_test : (b : Bool) (p : Prefix) →
        option_or (option_map (λ (r : Prefix). r.label) (slice_get (cond b [] (p ∷ [])) 0)) h ≡ cond b h (Some p.label)
    by_test true p = refl
    by_test false p = refl

-- an entry of a block's own length that covers its first address is within the block
covers-within : (W n q : ℕ) (p : Prefix) → covers W n (first_of W n q) p ≡ true → is_within W n q p ≡ true
covers-within W n q p c =
    of_numbers n p.bits (block_number W n p.start) q
    (subst (λ (i : ℕ). (p.bits == n && block_number W n p.start == i) ≡ true) (block_number-first_of W n q) c)
  where
    of_numbers : (n k b q : ℕ) → (k == n && b == q) ≡ true → (nat_le n k && b == q) ≡ true
    of_numbers n k b q h = grind (arith, nat_tests)

-- an entry that lies inside a block is within it
inside-within : (W n q : ℕ) (p : Prefix) → lies_inside W n q p ≡ true → is_within W n q p ≡ true
inside-within W n q p h = grind (arith, nat_tests)

-- an entry within a half has more bits than the block, and isn't within another half
within-longer : (W n i a : ℕ) (p : Prefix) → is_within W (suc n) i p ≡ true → covers W n a p ≡ false
within-longer W n i a p h = grind (arith, nat_tests)

within-other : (W n i j : ℕ) → (i ≡ j → ⊥) → (p : Prefix) → is_within W n i p ≡ true → is_within W n j p ≡ false
within-other W n i j other p h = grind (arith, nat_tests)

-- a block's own entry covers its first address, is in no half and doesn't lie inside
own-covers : (W n q : ℕ) (x : Label) → covers W n (first_of W n q) (record { start = first_of W n q; bits = n; label = x }) ≡ true
own-covers W n q x =
    and_from (n == n) (block_number W n (first_of W n q) == block_number W n (first_of W n q)) (eq-eqb n n refl)
    (eq-eqb (block_number W n (first_of W n q)) (block_number W n (first_of W n q)) refl)

own-half : (W n q i : ℕ) (x : Label) → is_within W (suc n) i (record { start = first_of W n q; bits = n; label = x }) ≡ false
own-half W n q i x = and_left (nat_le (suc n) n) (block_number W (suc n) (first_of W n q) == i) (lt-leb (suc n) n (omega arith))

own-inside : (W n q : ℕ) (x : Label) → lies_inside W n q (record { start = first_of W n q; bits = n; label = x }) ≡ false
own-inside W n q x = and_left (nat_lt n n) (block_number W n (first_of W n q) == q) (le-ltb n n (omega arith))

-- a claim that is the same as the exact claim is within it
within-same : (claim e : Claim) → IsSameClaim claim e → IsWithinExact claim e
within-same claim e same = record { cost = le_of_eq same.cost; labels = λ cost x h. same.labels x ∙ h }

-- A map, its label table, and a list.
module _ (m : MapModel) (table : List Label) (ps : List Prefix) where
  -- if the list's entries within a block are given, a test of entries within it keeps those of the given ones
  filter-given : (n q : ℕ) (given : List Prefix) (test : Prefix → Bool) →
      ((p : Prefix) → test p ≡ true → is_within (width_of m.version) n q p ≡ true) →
      filter (is_within (width_of m.version) n q) ps ≡ given → filter test ps ≡ filter test given
  filter-given n q given test within e =
      sym (filter-filter (is_within (width_of m.version) n q) test within ps) ∙ ap (filter test) e

  -- the list settles the block of a leaf
  leaf-decided : (x : Label) (h : Option Label) (n q : ℕ) →
      filter (is_within (width_of m.version) n q) ps ≡ own_entry (width_of m.version) table (x ∷ []) h n q →
      label_below (width_of m.version) ps n (first_of (width_of m.version) n q) ≡ h →
      ListSettles (width_of m.version) ps n q x
  leaf-decided x h n q given inherited = record {
    inside =
        filter-given n q (own_entry (width_of m.version) table (x ∷ []) h n q) (lies_inside (width_of m.version) n q)
        (inside-within (width_of m.version) n q) given
        ∙ filter-own_entry (width_of m.version) table (lies_inside (width_of m.version) n q) false (x ∷ []) h n q
        (own-inside (width_of m.version) n q);
    longest =
        label_below-own (width_of m.version) ps table (x ∷ []) h n q
        (filter-given n q (own_entry (width_of m.version) table (x ∷ []) h n q)
        (covers (width_of m.version) n (first_of (width_of m.version) n q))
        (covers-within (width_of m.version) n q) given
        ∙ filter-own_entry (width_of m.version) table (covers (width_of m.version) n (first_of (width_of m.version) n q)) true
        (x ∷ []) h n q (own-covers (width_of m.version) n q))
        inherited
        ∙ handed_on-leaf table x h;
  }

  -- what a test keeps if it keeps all or none of an inner node's own entry, and of the entries within each half
  inner-kept : (test : Prefix → Bool) (a b c : Bool) (claim : Claim) (lower upper : Tree) (h : Option Label) (n q : ℕ) → n < width_of m.version →
      StandsFor m (InnerNode claim lower upper) n q →
      filter (is_within (width_of m.version) n q) ps ≡ entries_of (width_of m.version) table (InnerNode claim lower upper) h n q →
      ((p : Prefix) → test p ≡ true → is_within (width_of m.version) n q p ≡ true) →
      ((x : Label) → test (record { start = first_of (width_of m.version) n q; bits = n; label = x }) ≡ a) →
      ((p : Prefix) → is_within (width_of m.version) (suc n) (2 * q) p ≡ true → test p ≡ b) →
      ((p : Prefix) → is_within (width_of m.version) (suc n) (2 * q + 1) p ≡ true → test p ≡ c) →
      filter test ps ≡ cond a (own_entry (width_of m.version) table claim.labels h n q) []
      ++ (cond b (entries_of (width_of m.version) table lower (handed_on table claim.labels h) (suc n) (2 * q)) []
      ++ cond c (entries_of (width_of m.version) table upper (handed_on table claim.labels h) (suc n) (2 * q + 1)) [])
  inner-kept test a b c claim lower upper h n q below stands given within own low up =
      filter-given n q _ test within given
      ∙ filter-three test _ _ _ _ _ _
      (filter-own_entry (width_of m.version) table test a claim.labels h n q own)
      (filter-entries_of m table test b lower (handed_on table claim.labels h) (suc n) (2 * q) below stands.2 low)
      (filter-entries_of m table test c upper (handed_on table claim.labels h) (suc n) (2 * q + 1) below stands.3 up)

  -- a node that represents a block is accepted if the list's entries within the block are the node's
  pub accepted-node : (t : Tree) (h : Option Label) (n q : ℕ) → n ≤ width_of m.version → StandsFor m t n q →
      filter (is_within (width_of m.version) n q) ps ≡ entries_of (width_of m.version) table t h n q →
      label_below (width_of m.version) ps n (first_of (width_of m.version) n q) ≡ h →
      IsNodeAccepted m ps t n q
  accepted-node (LeafNode x) h n q le stands given inherited = (stands, leaf-decided x h n q given inherited)
  accepted-node (ChainNode p bits side end) h n q le stands given inherited = absurd stands
  accepted-node (InnerNode claim lower upper) h n q le stands given inherited =
      let W : ℕ = width_of m.version in
      let below : n < width_of m.version = unsettled-halves m n q le stands.0 in
      let passed : Option Label = handed_on table claim.labels h in
      let own = inner-kept (covers W n (first_of W n q)) true false false claim lower upper h n q below stands given (covers-within W n q)
      (own-covers W n q) (within-longer W n (2 * q) (first_of W n q)) (within-longer W n (2 * q + 1) (first_of W n q)) in
      let low = inner-kept (is_within W (suc n) (2 * q)) false true false claim lower upper h n q below stands given
      (is_within-half W n q (2 * q) below (omega arith)) (own-half W n q (2 * q)) (λ p w. w)
      (within-other W (suc n) (2 * q + 1) (2 * q) (omega arith)) in
      let up = inner-kept (is_within W (suc n) (2 * q + 1)) false false true claim lower upper h n q below stands given
      (is_within-half W n q (2 * q + 1) below (omega arith)) (own-half W n q (2 * q + 1))
      (within-other W (suc n) (2 * q) (2 * q + 1) (omega arith)) (λ p w. w) in
      let handed : label_below W ps (suc n) (first_of W n q) ≡ passed =
      label_below-own W ps table claim.labels h n q (own ∙ append-nil (own_entry W table claim.labels h n q)) inherited in (
        below,
        accepted-node lower passed (suc n) (2 * q) below stands.2 (low ∙ append-nil (entries_of W table lower passed (suc n) (2 * q)))
            (label_below-lower W ps n q below ∙ handed),
        accepted-node upper passed (suc n) (2 * q + 1) below stands.3 up (label_below-upper W ps n q below ∙ handed),
        within-same claim (exact_claim (claim_of lower) (claim_of upper)) (same-listed m.table claim _ stands.1),
      )

-- a minimal pair's list has as many entries as the root's cost plus one
pub length-minimal : (m : MapModel) (l : ListModel) (c : CertificateModel) → IsMinimalPair m l c →
    length l.prefixes ≡ (claim_of c.root).cost + 1
length-minimal m l c pair = ap length pair.prefixes ∙ length-entries_of m m.table c.root None 0 0 pair.root

-- a minimal pair's certificate is accepted for its list
pub accepted-minimal : (m : MapModel) (l : ListModel) (c : CertificateModel) → IsMinimalPair m l c → IsAccepted m l c
accepted-minimal m l c pair = record {
  list_version = pair.list_version;
  certificate_version = pair.certificate_version;
  root =
      accepted-node m m.table l.prefixes c.root None 0 0 (omega arith) pair.root
      (ap (filter (is_within (width_of m.version) 0 0)) pair.prefixes
      ∙ filter-entries_of m m.table (is_within (width_of m.version) 0 0) true c.root None 0 0 (omega arith) pair.root (λ p w. w))
      refl;
  count = le_of_eq (length-minimal m l c pair);
}
