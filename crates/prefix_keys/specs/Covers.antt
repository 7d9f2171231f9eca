use Rattle.std.specs.Prelude.{ℕ, ◌≡◌, ◌≤◌}
use Rattle.prefix_keys.specs.Block.{block_number, width_of}
use Rattle.prefix_keys.specs.declared.addr.Addr.{Addr}
pub use Rattle.prefix_keys.specs.declared.block.Block.{Block}
pub use Rattle.prefix_keys.specs.declared.span.Span.{Span}

-- The addresses that blocks and spans cover.

-- the number is in the block: its quotient is that of the block's own number
abbrev pub IsInBlock : Block → ℕ → Type 0
IsInBlock block a =
    block_number (width_of block.version) block.len a ≡ block_number (width_of block.version) block.len block.value

-- the number is between the span's low address and its high one, both included
abbrev pub IsInSpan : Span → ℕ → Type 0
IsInSpan span a = (span.low.value ≤ a) × (a ≤ span.high.value)

-- a block covers the addresses of its version whose numbers are in it
abbrev pub BlockCovers : Block → Addr → Type 0
BlockCovers block addr = (block.version ≡ addr.version) × IsInBlock block addr.value

-- a span covers the addresses of its version whose numbers are in it
abbrev pub SpanCovers : Span → Addr → Type 0
SpanCovers span addr = (span.low.version ≡ addr.version) × IsInSpan span addr.value

-- a span covers a block if it covers each address that the block covers
abbrev pub SpanCoversBlock : Span → Block → Type 0
SpanCoversBlock span block =
    (span.low.version ≡ block.version) × ((a : ℕ) → IsInBlock block a → IsInSpan span a)

-- a span meets a block if both cover some address
abbrev pub SpanMeetsBlock : Span → Block → Type 0
SpanMeetsBlock span block =
    (span.low.version ≡ block.version) × ((a : ℕ) × IsInBlock block a × IsInSpan span a)
