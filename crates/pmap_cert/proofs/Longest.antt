use Rattle.std.proofs.Common.{◌≡◌, ℕ, zero, suc, ◌+◌, ◌/◌, ◌<◌, ◌≤◌, Bool, true, ◌&&◌, ◌==◌, List, None, arith, find, option_map, nat_le, nat_lt, sym, ap, ap₂, ◌∙◌, add-zero, add-suc, eqb-true, eq-eqb, le-leb}
use Rattle.std.specs.Option.{option_or}
use Rattle.std.proofs.lemmas.Bool.{and_from, and_parts, lt-ltb}
use Rattle.prefix_keys.specs.Block.{block_number}
use Rattle.pmap_model.specs.ListModel.{Prefix, covers, label_below, lies_inside}
use Rattle.pmap_model.proofs.Blocks.{block_number-half, block_number-shorter}
use Rattle.pmap_cert.proofs.Counts.{count_of, find-none, is_within}
use Rattle.pmap_model.proofs.ListLabels.{label_of_length}

-- All addresses of a block have the same longest match if no entry lies inside the block.

-- addresses of one block get the same label from the entries of the block's length
pub label_at-same : (W : ℕ) (ps : List Prefix) (n a b : ℕ) → block_number W n a ≡ block_number W n b →
    label_of_length W ps n a ≡ label_of_length W ps n b
label_at-same W ps n a b e =
    ap (λ (k : ℕ). option_map (λ (p : Prefix). p.label) (find (λ (p : Prefix). p.bits == n && block_number W n p.start == k) ps)) e

-- addresses of one block get the same label from the entries of the block's length and shorter ones
pub label_below-same : (W : ℕ) (ps : List Prefix) (n a b : ℕ) → n ≤ W → block_number W n a ≡ block_number W n b →
    label_below W ps (suc n) a ≡ label_below W ps (suc n) b
label_below-same W ps zero a b le e = ap (λ o. option_or o None) (label_at-same W ps 0 a b e)
label_below-same W ps (suc n) a b le e =
    ap₂ option_or (label_at-same W ps (suc n) a b e)
    (label_below-same W ps n a b (omega arith)
    (block_number-half W n a le ∙ ap (λ (i : ℕ). i / 2) e ∙ sym (block_number-half W n b le)))

-- if no entry passes a test that each entry of n bits that covers the address passes, entries of n bits give no label
pub label_at-none : (W : ℕ) (ps : List Prefix) (n a : ℕ) (test : Prefix → Bool) →
    ((p : Prefix) → covers W n a p ≡ true → test p ≡ true) → count_of test ps ≡ 0 → label_of_length W ps n a ≡ None
label_at-none W ps n a test passes none = ap (option_map (λ (p : Prefix). p.label)) (find-none test (covers W n a) passes ps none)

-- an entry of j bits that covers an address lies in each block of at most j bits with the address
covers-shorter : (W n j q a : ℕ) (p : Prefix) → n ≤ j → j ≤ W → block_number W n a ≡ q → covers W j a p ≡ true →
    (p.bits ≡ j) × (block_number W n p.start ≡ q)
covers-shorter W n j q a p le le' e c =
    let h = and_parts (p.bits == j) (block_number W j p.start == block_number W j a) c in (
      eqb-true p.bits j h.0,
      block_number-shorter W n j p.start a le le' (eqb-true (block_number W j p.start) (block_number W j a) h.1) ∙ e,
    )

-- entries of n to n + k - 1 bits give no label if each of them that covers the address passes a test that no entry passes
label_below-none : (W : ℕ) (ps : List Prefix) (n k a : ℕ) (test : Prefix → Bool) →
    ((j : ℕ) → n ≤ j → j < n + k → (p : Prefix) → covers W j a p ≡ true → test p ≡ true) → count_of test ps ≡ 0 →
    label_below W ps (n + k) a ≡ label_below W ps n a
label_below-none W ps n zero a test passes none = rw add-zero
label_below-none W ps n (suc k) a test passes none =
    let here : label_of_length W ps (n + k) a ≡ None = label_at-none W ps (n + k) a test (passes (n + k) (omega arith) (omega arith)) none in
    rw (add-suc, here) (label_below-none W ps n k a test (λ j le less. passes j le (omega (arith, less))) none)

-- no entry within a block gives an address of it a label
pub label_below-within : (W : ℕ) (ps : List Prefix) (n k q a : ℕ) → n + k ≤ suc W → block_number W n a ≡ q →
    count_of (is_within W n q) ps ≡ 0 → label_below W ps (n + k) a ≡ label_below W ps n a
label_below-within W ps n k q a le e =
    label_below-none W ps n k a (is_within W n q) (λ j least less p c.
    let h = covers-shorter W n j q a p least (omega (arith, less)) e c in
    and_from (nat_le n p.bits) (block_number W n p.start == q) (le-leb n p.bits (omega arith)) (eq-eqb _ q h.1))

pub label_below-inside : (W : ℕ) (ps : List Prefix) (n k q a : ℕ) → n + k ≤ W → block_number W n a ≡ q →
    count_of (lies_inside W n q) ps ≡ 0 → label_below W ps (suc n + k) a ≡ label_below W ps (suc n) a
label_below-inside W ps n k q a le e =
    label_below-none W ps (suc n) k a (lies_inside W n q) (λ j least less p c.
    let h = covers-shorter W n j q a p (omega arith) (omega (arith, less)) e c in
    and_from (nat_lt n p.bits) (block_number W n p.start == q) (lt-ltb n p.bits (omega arith)) (eq-eqb _ q h.1))
