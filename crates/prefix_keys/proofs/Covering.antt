use Rattle.std.proofs.Common.{ℕ, ◌≡◌, ◌+◌, ◌-◌, ◌*◌, ◌/◌, ◌^◌, ◌<◌, ◌≤◌, arith, inl, inr}
use Rattle.std.proofs.lemmas.Nat.{pow_pos}
use Rattle.prefix_keys.specs.Block.{block_number, first_of, last_of, width_of}
use Rattle.prefix_keys.specs.Covers.{SpanMeetsBlock, SpanCoversBlock, Block, Span}
use Rattle.std.proofs.lemmas.Bool.{cases_lt}
use Rattle.prefix_keys.proofs.Quotients.{above_first, below_end, quotient_is}

-- The numbers from low to high, and the numbers a with a / d ≡ q.

-- both contain some number
abbrev pub Meet : ℕ → ℕ → ℕ → ℕ → Type 0
Meet d q low high = (a : ℕ) × (a / d ≡ q) × ((low ≤ a) × (a ≤ high))

pub meet : (d q low high : ℕ) → 0 < d → low ≤ high → low ≤ (q + 1) * d - 1 → q * d ≤ high → Meet d q low high
meet d q low high some ordered l h =
    elim (cases_lt low (q * d)) [
      | inl under ↦ (q * d, quotient_is (q * d) d q some (omega arith) (omega arith), (omega arith, h))
      | inr over ↦ (low, quotient_is low d q some over (omega arith), (omega arith, ordered))
    ]

pub meet-high : (d q low high : ℕ) → 0 < d → Meet d q low high → q * d ≤ high
meet-high d q low high some m = let b = above_first m.0 d q some m.1 in let h = m.2.1 in omega arith

-- the second is within the first
abbrev pub Within : ℕ → ℕ → ℕ → ℕ → Type 0
Within d q low high = (a : ℕ) → a / d ≡ q → (low ≤ a) × (a ≤ high)

pub within : (d q low high : ℕ) → 0 < d → low ≤ q * d → (q + 1) * d - 1 ≤ high → Within d q low high
within d q low high some l h a e =
    let over = above_first a d q some e in
    let under = below_end a d q some e in
    (omega arith, omega arith)

pub within-high : (d q low high : ℕ) → 0 < d → Within d q low high → (q + 1) * d - 1 ≤ high
within-high d q low high some w =
    (w ((q + 1) * d - 1) (quotient_is ((q + 1) * d - 1) d q some (omega arith) (omega arith))).1

-- `IsInBlock` and `IsInSpan` for a span and a block of one version
pub span_meets : (span : Span) (block : Block) → span.low.version ≡ block.version →
    span.low.value ≤ last_of (width_of block.version) block.len (block_number (width_of block.version) block.len block.value) →
    first_of (width_of block.version) block.len (block_number (width_of block.version) block.len block.value) ≤ span.high.value →
    SpanMeetsBlock span block
span_meets span block same l h =
    let k : ℕ = width_of block.version - block.len in
    let m = meet (2 ^ k) (block.value / 2 ^ k) span.low.value span.high.value (pow_pos k) span.ordered l h in
    (same, m)

pub span_meets-high : (span : Span) (block : Block) → SpanMeetsBlock span block →
    first_of (width_of block.version) block.len (block_number (width_of block.version) block.len block.value) ≤ span.high.value
span_meets-high span block m =
    let k : ℕ = width_of block.version - block.len in
    meet-high (2 ^ k) (block.value / 2 ^ k) span.low.value span.high.value (pow_pos k) m.1

pub span_covers_block : (span : Span) (block : Block) → span.low.version ≡ block.version →
    span.low.value ≤ first_of (width_of block.version) block.len (block_number (width_of block.version) block.len block.value) →
    last_of (width_of block.version) block.len (block_number (width_of block.version) block.len block.value) ≤ span.high.value →
    SpanCoversBlock span block
span_covers_block span block same l h =
    let k : ℕ = width_of block.version - block.len in
    (same, within (2 ^ k) (block.value / 2 ^ k) span.low.value span.high.value (pow_pos k) l h)

pub span_covers_block-high : (span : Span) (block : Block) → SpanCoversBlock span block →
    last_of (width_of block.version) block.len (block_number (width_of block.version) block.len block.value) ≤ span.high.value
span_covers_block-high span block w =
    let k : ℕ = width_of block.version - block.len in
    within-high (2 ^ k) (block.value / 2 ^ k) span.low.value span.high.value (pow_pos k) w.1
