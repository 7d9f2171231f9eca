use Rattle.std.specs.Prelude.{◌≡◌, ◌≢◌, ℕ, ◌+◌, ◌<◌, ◌≤◌, ◌&&◌, List, [], ◌∷◌, Option, filter, nat_le}
use Rattle.pmap_model.specs.MapModel.{Label}

-- Runs: the maximal ranges of consecutive addresses that have one label or no label.

-- the addresses from low to high, and the label text of each of them, if they have one
pub record Run : Type 0 where
  pub low : ℕ
  pub high : ℕ
  pub label : Option Label

-- the run has an address, and each of its addresses has the run's label, or no label if the run has none
pub record HasOneLabel (label_of : ℕ → Option Label) (run : Run) : Type 0 where
  pub some : run.low ≤ run.high
  pub each : (a : ℕ) → run.low ≤ a → a ≤ run.high → label_of a ≡ run.label

-- The runs follow one another. The first begins at `from`, and the last ends right before `to`. Each has one label, and
-- the address after it has another one.
abbrev pub AreRuns : (ℕ → Option Label) → ℕ → ℕ → List Run → Type 0
AreRuns label_of from to [] = from ≡ to
AreRuns label_of from to (run ∷ runs) =
    (run.low ≡ from) × HasOneLabel label_of run
    × (run.high + 1 < to → label_of (run.high + 1) ≢ run.label)
    × AreRuns label_of (run.high + 1) to runs

-- exactly one of the runs has the address, and it has the address's label
abbrev pub HasOneRun : (ℕ → Option Label) → List Run → ℕ → Type 0
HasOneRun label_of runs a =
    (run : Run) × (filter (λ r. nat_le r.low a && nat_le a r.high) runs ≡ run ∷ [])
    × (run.label ≡ label_of a)
