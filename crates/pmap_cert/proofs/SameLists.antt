-- The list of a minimal pair depends only on the labels of the addresses, not on the blocks that the map settles.
use Rattle.std.proofs.Common.{◌≡◌, ℕ, suc, inl, inr, ◌+◌, ◌*◌, ◌/◌, ◌^◌, ◌<◌, ◌≤◌, Bool, true, false, cond, List, [], ◌∷◌, ◌++◌, Option, Some, None, find, slice_index_or, unwrap_or, bytes_eq, refl, sym, ap, ap₂, ◌∙◌, subst, arith, pow-suc}
use Rattle.std.proofs.lemmas.Bool.{both_ways, or_cases}
use Rattle.std.proofs.lemmas.List.{append-nil}
use Rattle.std.proofs.lemmas.Slice.Eq.{bytes_eq-Decides}
use Rattle.std.proofs.lemmas.Option.{none-some}
use Rattle.prefix_keys.specs.Block.{block_number, first_of, width_of}
use Rattle.pmap_model.specs.MapModel.{Label, MapModel, Mapping, map_label}
use Rattle.pmap_model.proofs.Blocks.{block_number-first_of, block_number-half, first_of-below}
use Rattle.pmap_model.proofs.Settled.{map_label-settled, unsettled-halves}
use Rattle.pmap_cert.specs.CertificateModel.{ChainNode, InnerNode, LeafNode, Claim, IsSameClaim, Tree, claim_of, exact_claim, exact_claim_by}
use Rattle.pmap_cert.specs.Acceptance.{HasItsLabels, StandsFor, entries_of, handed_on, has_inherited, least_label, own_entry}
use Rattle.pmap_cert.proofs.Alike.{table-node}
use Rattle.pmap_cert.proofs.Handed.{handed_on-leaf, inhabited}
use Rattle.pmap_cert.proofs.Sets.{has-own, same-back, same-exact_claim, same-listed, same-then}
use Rattle.pmap_model.specs.Label.{has_label}

-- a test that a label of the table passes is passed by the one that is found
found-some : (test : Label → Bool) (table : List Label) (x : Label) → has_label table x ≡ true → test x ≡ true → find test table ≡ None → ⊥
found-some test [] x h passes none = cc
found-some test (y ∷ ys) x h passes none =
    elim (or_cases (bytes_eq x y) (has_label ys x) h) [
      | inl same ↦
          let own : test y ≡ true = ap test (sym ((bytes_eq-Decides x y).0 same)) ∙ passes in
          by true own (λ e. both_ways (test y) e own)
      | inr later ↦ by (test y) refl (λ e. found-some test ys x later passes (ap (λ (b : Bool). cond b (Some y) (find test ys)) (sym e) ∙ none))
    ]
  where
    by : (b : Bool) → test y ≡ b → (test y ≡ false → ⊥) → ⊥
    by true e other = none-some y (sym none ∙ ap (λ (b : Bool). cond b (Some y) (find test ys)) e)
    by false e other = other e

-- Two sets with the same labels, one of which is in the table.
module _ (W : ℕ) (table s s' : List Label) (same : (x : Label) → has_label s x ≡ has_label s' x) (x : Label) (inside : has_label s x ≡ true) (known : has_label table x ≡ true) where
  same-least : least_label table s ≡ least_label table s'
  same-least = by (find (has_label s) table) refl ∙ (λ i. unwrap_or (find (λ y. same y i) table) (slice_index_or s' 0 []))
    where
      by : (o : Option Label) → find (has_label s) table ≡ o → unwrap_or (find (has_label s) table) (slice_index_or s 0 []) ≡ unwrap_or (find (has_label s) table) (slice_index_or s' 0 [])
      by None e = absurd (found-some (has_label s) table x known inside e)
      by (Some y) e = rw e refl

  same-inherited : (h : Option Label) → has_inherited s h ≡ has_inherited s' h
  same-inherited None = refl
  same-inherited (Some y) = same y

  same-handed : (h : Option Label) → handed_on table s h ≡ handed_on table s' h
  same-handed h = λ i. cond (same-inherited h i) h (Some (same-least i))

  same-own : (h : Option Label) (n q : ℕ) → own_entry W table s h n q ≡ own_entry W table s' h n q
  same-own h n q = λ i. cond (same-inherited h i) [] (record { start = first_of W n q; bits = n; label = same-least i } ∷ [])

-- the claim of one label without cost
abbrev single : Label → Claim
single x = record { cost = 0; labels = x ∷ [] }

single-exact : (x : Label) → exact_claim (single x) (single x) ≡ single x
single-exact x = ap (λ (b : Bool). exact_claim_by (single x) (single x) (cond b (x ∷ []) [])) (has-own x)

-- the addresses of the block have the label
abbrev AllHave : MapModel → Label → ℕ → ℕ → Type 0
AllHave m x n q = (a : ℕ) → a < 2 ^ width_of m.version → block_number (width_of m.version) n a ≡ q → map_label m a ≡ x

half-low : (n q : ℕ) → q < 2 ^ n → 2 * q < 2 ^ suc n
half-low n q h = omega (arith, pow-suc 2 n)

half-high : (n q : ℕ) → q < 2 ^ n → 2 * q + 1 < 2 ^ suc n
half-high n q h = omega (arith, pow-suc 2 n)

-- the map with other statements and another default
abbrev pub other : MapModel → List Mapping → Label → MapModel
other m ms fallback = record m { mappings = ms; fallback = fallback }

-- A block whose addresses have one label has the claim and the entries of a leaf with it.
module _ (m : MapModel) (inside : HasItsLabels m) where
  abbrev W : ℕ
  W = width_of m.version

  half-have : (x : Label) (n q i : ℕ) → n < W → i / 2 ≡ q → AllHave m x n q → AllHave m x (suc n) i
  half-have x n q i below half all a fits number = all a fits (block_number-half W n a below ∙ ap (λ (k : ℕ). k / 2) number ∙ half)

  pub of-one-label : (x : Label) (t : Tree) (n q : ℕ) → n ≤ W → q < 2 ^ n → StandsFor m t n q → AllHave m x n q
      → IsSameClaim (claim_of t) (single x) × ((h : Option Label) → entries_of W m.table t h n q ≡ own_entry W m.table (x ∷ []) h n q)
  of-one-label x (LeafNode y) n q le small stands all =
      let label : y ≡ x =
      sym (map_label-settled m n q (first_of W n q) y (block_number-first_of W n q) stands) ∙ all (first_of W n q) (first_of-below W n q le small) (block_number-first_of W n q) in (
        record { cost = refl; labels = λ z i. has_label (label i ∷ []) z },
        λ h i. own_entry W m.table (label i ∷ []) h n q,
      )
  of-one-label x (ChainNode p bits side end) n q le small stands all = absurd stands
  of-one-label x (InnerNode p l r) n q le small stands all =
      let below : n < W = unsettled-halves m n q le stands.0 in
      let lower = of-one-label x l (suc n) (2 * q) below (half-low n q small) stands.2 (half-have x n q (2 * q) below (omega arith) all) in
      let upper = of-one-label x r (suc n) (2 * q + 1) below (half-high n q small) stands.3 (half-have x n q (2 * q + 1) below (omega arith) all) in
      let claim : IsSameClaim p (single x) =
      same-then p (exact_claim (claim_of l) (claim_of r)) (single x) (same-listed m.table p _ stands.1)
      (subst (IsSameClaim (exact_claim (claim_of l) (claim_of r))) (single-exact x) (same-exact_claim (claim_of l) (claim_of r) (single x) (single x) lower.0 upper.0)) in
      let some = inhabited m (InnerNode p l r) n q stands in
      let known = table-node m inside (InnerNode p l r) n q stands some.0 some.1 in (
        claim,
        λ h.
            let handed : handed_on m.table p.labels h ≡ Some x = same-handed W m.table p.labels (x ∷ []) claim.labels some.0 some.1 known h ∙ handed_on-leaf m.table x h in
            let none : (k i : ℕ) → own_entry W m.table (x ∷ []) (Some x) k i ≡ [] =
            λ k i. ap (λ (b : Bool). cond b [] (record { start = first_of W k i; bits = k; label = least_label m.table (x ∷ []) } ∷ [])) (has-own x) in
            ap₂ ◌++◌ (same-own W m.table p.labels (x ∷ []) claim.labels some.0 some.1 known h n q)
            (ap₂ ◌++◌
            (ap (λ (g : Option Label). entries_of W m.table l g (suc n) (2 * q)) handed ∙ lower.1 (Some x) ∙ none (suc n) (2 * q))
            (ap (λ (g : Option Label). entries_of W m.table r g (suc n) (2 * q + 1)) handed ∙ upper.1 (Some x) ∙ none (suc n) (2 * q + 1)))
            ∙ append-nil (own_entry W m.table (x ∷ []) h n q),
      )

  settled-have : (x : Label) (n q : ℕ) → StandsFor m (LeafNode x) n q → AllHave m x n q
  settled-have x n q stands a fits number = map_label-settled m n q a x number stands

-- Two maps that differ in their statements but not in the labels of addresses have the same list.
module _ (m : MapModel) (ms : List Mapping) (fallback : Label) (inside : HasItsLabels m) (inside' : HasItsLabels (other m ms fallback))
    (labels : (a : ℕ) → a < 2 ^ width_of m.version → map_label (other m ms fallback) a ≡ map_label m a) where
  pub same-entries : (t t' : Tree) (n q : ℕ) → n ≤ width_of m.version → q < 2 ^ n → StandsFor m t n q → StandsFor (other m ms fallback) t' n q
      → IsSameClaim (claim_of t) (claim_of t')
      × ((h : Option Label) → entries_of (width_of m.version) m.table t h n q ≡ entries_of (width_of m.version) m.table t' h n q)
  same-entries (LeafNode x) t' n q le small stands stands' =
      let of = of-one-label (other m ms fallback) inside' x t' n q le small stands' (λ a fits number. labels a fits ∙ settled-have m inside x n q stands a fits number) in
      (record { cost = sym of.0.cost; labels = λ z. sym (of.0.labels z) }, λ h. sym (of.1 h))
  same-entries (ChainNode p bits side end) t' n q le small stands stands' = absurd stands
  same-entries (InnerNode p l r) (LeafNode y) n q le small stands stands' =
      of-one-label m inside y (InnerNode p l r) n q le small stands (λ a fits number. sym (labels a fits) ∙ settled-have (other m ms fallback) inside' y n q stands' a fits number)
  same-entries (InnerNode p l r) (ChainNode p' bits side end) n q le small stands stands' = absurd stands'
  same-entries (InnerNode p l r) (InnerNode p' l' r') n q le small stands stands' =
      let below : n < width_of m.version = unsettled-halves m n q le stands.0 in
      let lower = same-entries l l' (suc n) (2 * q) below (half-low n q small) stands.2 stands'.2 in
      let upper = same-entries r r' (suc n) (2 * q + 1) below (half-high n q small) stands.3 stands'.3 in
      let claim : IsSameClaim p p' =
      same-then p (exact_claim (claim_of l) (claim_of r)) p' (same-listed m.table p _ stands.1)
      (same-then (exact_claim (claim_of l) (claim_of r)) (exact_claim (claim_of l') (claim_of r')) p'
      (same-exact_claim (claim_of l) (claim_of r) (claim_of l') (claim_of r') lower.0 upper.0) (same-back p' _ (same-listed m.table p' _ stands'.1))) in
      let some = inhabited m (InnerNode p l r) n q stands in
      let known = table-node m inside (InnerNode p l r) n q stands some.0 some.1 in (
        claim,
        λ h.
            let on : Option Label = handed_on m.table p'.labels h in
            let handed : handed_on m.table p.labels h ≡ on = same-handed (width_of m.version) m.table p.labels p'.labels claim.labels some.0 some.1 known h in
            ap₂ ◌++◌ (same-own (width_of m.version) m.table p.labels p'.labels claim.labels some.0 some.1 known h n q)
            (ap₂ ◌++◌ (ap (λ (g : Option Label). entries_of (width_of m.version) m.table l g (suc n) (2 * q)) handed ∙ lower.1 on)
            (ap (λ (g : Option Label). entries_of (width_of m.version) m.table r g (suc n) (2 * q + 1)) handed ∙ upper.1 on)),
      )
