-- The longest entry that covers an address, if the entry on top is known.
use Rattle.std.proofs.Common.{◌≡◌, ℕ, zero, suc, ◌+◌, ◌-◌, ◌*◌, ◌^◌, ◌<◌, ◌≤◌, ◌==◌, inl, inr, true, false, nat_lt, List, [], Option, Some, None, option_and_then, option_map, filter, slice_get, length, refl, sym, ap, ◌∙◌, subst, arith, All, Contains, pow-suc, pow_pos}
use Rattle.std.specs.Option.{ForSome}
use Rattle.std.proofs.Math.Nat.{pow-le-pow_right}
use Rattle.std.proofs.lemmas.Bool.{and_from, and_parts, both_ways, cases_eq, cases_lt, eq-eqb, eqb-true, false_from_ne_true, ltb-true}
use Rattle.std.proofs.lemmas.Option.{none-some, same_Some}
use Rattle.std.proofs.lemmas.List.Elements.{All-contains, All-weaker}
use Rattle.prefix_keys.specs.Block.{block_number, first_of, last_of}
use Rattle.pmap_model.specs.ListModel.{Prefix, covers, label_below, lies_inside}
use Rattle.pmap_model.specs.MapModel.{Label, meets, spans_all}
use Rattle.pmap_model.proofs.Finds.{filter_none, find_alike, find_none}
use Rattle.pmap_model.proofs.Blocks.{address-between, address-first, address-last}
use Rattle.pmap_stretches.proofs.Orders.{both_le, known_text, le_both}
use Rattle.pmap_stretches.proofs.Painted.{painted, IsTop, IsSeen}
use Rattle.pmap_model.proofs.ListLabels.{label_of_length}

-- prefixes of blocks; those with the same block have the same label
pub record AreBlocks (W : ℕ) (ps : List Prefix) : Type 0 where
  pub short : All (λ p. p.bits ≤ W) ps
  pub alike : (p r : Prefix) → Contains ps p → Contains ps r → p.bits ≡ r.bits
      → block_number W p.bits p.start ≡ block_number W r.bits r.start → p.label ≡ r.label

-- a prefix that has an address of a block meets the block
meets_at : (W n q a : ℕ) (p : Prefix) → q ≡ block_number W n a → block_number W p.bits p.start ≡ block_number W p.bits a
    → meets W n q (painted W p) ≡ true
meets_at W n q a p inside same =
    le_both (first_of W p.bits (block_number W p.bits p.start)) (last_of W n q) (first_of W n q)
    (last_of W p.bits (block_number W p.bits p.start))
    (omega (arith, address-first W p.bits (block_number W p.bits p.start) a (sym same), address-last W n q a (sym inside)))
    (omega (arith, address-first W n q a (sym inside), address-last W p.bits (block_number W p.bits p.start) a (sym same)))

-- so do one that covers the address and one inside the block
covers_parts : (W k a : ℕ) (p : Prefix) → covers W k a p ≡ true
    → (p.bits ≡ k) × (block_number W p.bits p.start ≡ block_number W p.bits a)
covers_parts W k a p h =
    let parts = and_parts (p.bits == k) (block_number W k p.start == block_number W k a) h in
    let bits = eqb-true p.bits k parts.0 in
    let number = eqb-true (block_number W k p.start) (block_number W k a) parts.1 in
    (bits, subst (λ (i : ℕ). block_number W i p.start ≡ block_number W i a) (sym bits) number)

covers_meets : (W n q k a : ℕ) (p : Prefix) → q ≡ block_number W n a → covers W k a p ≡ true → meets W n q (painted W p) ≡ true
covers_meets W n q k a p inside h = meets_at W n q a p inside (covers_parts W k a p h).1

inside_parts : (W n q : ℕ) (p : Prefix) → lies_inside W n q p ≡ true → (n < p.bits) × (meets W n q (painted W p) ≡ true)
inside_parts W n q p h =
    let parts = and_parts (nat_lt n p.bits) (block_number W n p.start == q) h in
    (ltb-true n p.bits parts.0, meets_at W n q p.start p (sym (eqb-true (block_number W n p.start) q parts.1)) refl)

-- the prefix on top covers each address of the block
top_number : (W n q a : ℕ) (p : Prefix) → spans_all W n q (painted W p) ≡ true → q ≡ block_number W n a
    → block_number W p.bits a ≡ block_number W p.bits p.start
top_number W n q a p h inside =
    let s = block_number W p.bits p.start in
    let orders = both_le (first_of W p.bits s) (first_of W n q) (last_of W n q) (last_of W p.bits s) h in
    address-between W p.bits s a (omega (arith, orders.0, address-first W n q a (sym inside)))
    (omega (arith, orders.1, address-last W n q a (sym inside)))

top_covers : (W n q a : ℕ) (p : Prefix) → spans_all W n q (painted W p) ≡ true → q ≡ block_number W n a
    → covers W p.bits a p ≡ true
top_covers W n q a p h inside =
    and_from (p.bits == p.bits) (block_number W p.bits p.start == block_number W p.bits a) (eq-eqb p.bits p.bits refl)
    (eq-eqb (block_number W p.bits p.start) (block_number W p.bits a) (sym (top_number W n q a p h inside)))

-- and is no longer than the block
narrower : (A B q s : ℕ) → 0 < A → 0 < B → s * B ≤ q * A → (q + 1) * A - 1 ≤ (s + 1) * B - 1 → A ≤ B
narrower A B q s some some' low high = omega arith

top_short : (W n q : ℕ) (p : Prefix) → p.bits ≤ W → spans_all W n q (painted W p) ≡ true → p.bits ≤ n
top_short W n q p fits h =
    elim (cases_lt n p.bits) [
      | inl longer ↦
          let s = block_number W p.bits p.start in
          let orders = both_le (first_of W p.bits s) (first_of W n q) (last_of W n q) (last_of W p.bits s) h in
          let size = narrower (2 ^ (W - n)) (2 ^ (W - p.bits)) q s (pow_pos (W - n)) (pow_pos (W - p.bits)) orders.0 orders.1 in
          let twice : 2 ^ suc (W - p.bits) ≤ 2 ^ (W - n) = pow-le-pow_right (omega arith) (omega arith) in
          absurd (omega (arith, size, twice, pow-suc 2 (W - p.bits), pow_pos (W - p.bits)))
      | inr short ↦ short
    ]

-- if no entry meets the block of an address, none covers the address
uncovered : (W : ℕ) (ps : List Prefix) (n q a : ℕ) → q ≡ block_number W n a → All (λ p. meets W n q (painted W p) ≡ false) ps → (k : ℕ)
    → label_of_length W ps k a ≡ None
uncovered W ps n q a inside none k =
    ap (option_map (λ (p : Prefix). p.label))
    (find_none (covers W k a) ps (All-weaker (λ p. meets W n q (painted W p) ≡ false) (λ p. covers W k a p ≡ false)
    (λ p miss. false_from_ne_true (covers W k a p) (λ h. both_ways (meets W n q (painted W p)) miss (covers_meets W n q k a p inside h)))
    ps none))

below_uncovered : (W : ℕ) (ps : List Prefix) (n q a : ℕ) → q ≡ block_number W n a → All (λ p. meets W n q (painted W p) ≡ false) ps
    → (k : ℕ) → label_below W ps k a ≡ None
below_uncovered W ps n q a inside none zero = refl
below_uncovered W ps n q a inside none (suc k) =
    rw (uncovered W ps n q a inside none k) (below_uncovered W ps n q a inside none k)

-- if an entry is on top, none that is longer covers the address, and those of its length have its label
beyond_top : (W : ℕ) (ps : List Prefix) (n q a : ℕ) (top : Prefix) → q ≡ block_number W n a → IsTop W ps n q top → (k : ℕ) → top.bits < k
    → label_of_length W ps k a ≡ None
beyond_top W ps n q a top inside is k longer =
    ap (option_map (λ (p : Prefix). p.label))
    (find_none (covers W k a) ps (All-weaker (λ p. meets W n q (painted W p) ≡ true → p.bits ≤ top.bits) (λ p. covers W k a p ≡ false)
    (λ p most. false_from_ne_true (covers W k a p)
    (λ h. absurd (omega (arith, longer, most (covers_meets W n q k a p inside h), (covers_parts W k a p h).0)))) ps is.longest))

at_top : (W : ℕ) (ps : List Prefix) (n q a : ℕ) (top : Prefix) → AreBlocks W ps → q ≡ block_number W n a → IsTop W ps n q top
    → label_of_length W ps top.bits a ≡ Some top.label
at_top W ps n q a top blocks inside is =
    find_alike (λ (p : Prefix). p.label) (covers W top.bits a) ps top is.listed (top_covers W n q a top is.covers inside)
    (λ p listed h.
    let parts = covers_parts W top.bits a p h in
    let number : block_number W p.bits a ≡ block_number W top.bits a = ap (λ (i : ℕ). block_number W i a) parts.0 in
    blocks.alike p top listed is.listed parts.0 (parts.1 ∙ number ∙ top_number W n q a top is.covers inside))

below_top : (W : ℕ) (ps : List Prefix) (n q a : ℕ) (top : Prefix) → AreBlocks W ps → q ≡ block_number W n a → IsTop W ps n q top
    → (k : ℕ) → top.bits < k → label_below W ps k a ≡ Some top.label
below_top W ps n q a top blocks inside is zero longer = absurd (omega (arith, longer))
below_top W ps n q a top blocks inside is (suc k) longer =
    elim (cases_eq top.bits k) [
      | inl same ↦ rw (← same, at_top W ps n q a top blocks inside is)
      | inr other ↦
          let beyond : top.bits < k = omega (arith, longer, other) in
          rw (beyond_top W ps n q a top inside is k beyond) (below_top W ps n q a top blocks inside is k beyond)
    ]

-- so the longest entry of fewer than k bits gives the label that is seen, if k is large enough
pub label_seen : (W : ℕ) (table : List Label) (ps : List Prefix) (n q a k : ℕ) (label : Option ℕ) → AreBlocks W ps → q ≡ block_number W n a
    → ((bits : ℕ) → bits ≤ n → bits ≤ W → bits < k) → IsSeen W table ps n q label
    → label_below W ps k a ≡ option_and_then (slice_get table) label
label_seen W table ps n q a k None blocks inside enough f = below_uncovered W ps n q a inside f k
label_seen W table ps n q a k (Some id) blocks inside enough f =
    let top = (f.1).0 in
    let is = (f.1).2 in
    let fits = All-contains (λ p. p.bits ≤ W) ps top blocks.short is.listed in
    below_top W ps n q a top blocks inside is k (enough top.bits (top_short W n q top fits is.covers) fits)
    ∙ ap Some (f.1).1 ∙ sym (known_text table id f.0)

-- and no entry is inside the block
pub none_inside : (W : ℕ) (table : List Label) (ps : List Prefix) (n q : ℕ) (label : Option ℕ) → AreBlocks W ps → IsSeen W table ps n q label
    → filter (lies_inside W n q) ps ≡ []
none_inside W table ps n q None blocks f =
    filter_none (lies_inside W n q) ps
    (All-weaker (λ p. meets W n q (painted W p) ≡ false) (λ p. lies_inside W n q p ≡ false)
    (λ p miss. false_from_ne_true (lies_inside W n q p) (λ h. both_ways (meets W n q (painted W p)) miss (inside_parts W n q p h).1)) ps f)
none_inside W table ps n q (Some id) blocks f =
    let top = (f.1).0 in
    let is = (f.1).2 in
    let short = top_short W n q top (All-contains (λ p. p.bits ≤ W) ps top blocks.short is.listed) is.covers in
    filter_none (lies_inside W n q) ps
    (All-weaker (λ p. meets W n q (painted W p) ≡ true → p.bits ≤ top.bits) (λ p. lies_inside W n q p ≡ false)
    (λ p most. false_from_ne_true (lies_inside W n q p)
    (λ h. let parts = inside_parts W n q p h in absurd (omega (arith, short, most parts.1, parts.0)))) ps is.longest)

pub known_seen : (W : ℕ) (table : List Label) (ps : List Prefix) (n q : ℕ) (label : Option ℕ) → IsSeen W table ps n q label
    → ForSome label (λ id. id < length table)
known_seen W table ps n q None f = λ id is. absurd (none-some id is)
known_seen W table ps n q (Some id) f = λ i is. subst (λ (j : ℕ). j < length table) (same_Some id i is) f.0
