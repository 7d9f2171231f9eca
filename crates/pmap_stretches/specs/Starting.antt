use Rattle.std.specs.Prelude.{◌≡◌, ℕ, ◌<◌, ◌≤◌, List, Some, length, slice_get}
use Rattle.std.specs.Option.{option_map_or}
use Rattle.pmap_model.specs.declared.statement.Statement.{Statement}
pub use Rattle.pmap_stretches.specs.declared.stretches.start.NarrowStart.{NarrowStart}
pub use Rattle.pmap_stretches.specs.declared.stretches.start.Start.{Start}

-- the start that is stored in 8 bytes
abbrev pub start_of_narrow : NarrowStart → Start
start_of_narrow narrow = record { low = narrow.low; number = narrow.number }

-- the number of the statement with an index in the order of these starts; without starts, the order is the given one
abbrev pub number_at : List Start → ℕ → ℕ
number_at starts i = option_map_or (λ start. start.number) (slice_get starts i) i

-- each statement is in the order of these starts, in which the first addresses ascend
pub record IsOrder (ss : List Statement) (starts : List Start) : Type 0 where
  pub within : (i : ℕ) → i < length ss → number_at starts i < length ss
  pub every : (j : ℕ) → j < length ss → (i : ℕ) × (i < length ss) × (number_at starts i ≡ j)
  pub ascending : (i k : ℕ) (r s : Statement) → i ≤ k → k < length ss → slice_get ss (number_at starts i) ≡ Some r
      → slice_get ss (number_at starts k) ≡ Some s → r.span.low.value ≤ s.span.low.value
