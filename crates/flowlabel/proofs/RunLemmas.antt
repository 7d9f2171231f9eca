-- Runs are maximal.
use Rattle.std.proofs.Common.{◌≡◌, ◌≢◌, ◌∙◌, ℕ, ◌+◌, ◌<◌, ◌≤◌, All, List, [], ◌∷◌, Option, ap, sym, arith}
use Rattle.std.specs.Prelude.{Contains}
use Rattle.std.proofs.lemmas.List.Elements.{All-cons, All-contains, All-nil, All-weaker}
use Rattle.pmap_model.specs.MapModel.{Label}
use Rattle.pmap_stretches.specs.Runs.{AreRuns, HasOneLabel, Run}
use Rattle.pmap_stretches.proofs.RunLists.{first-label, ordered}

module _ (f : ℕ → Option Label) where
  -- a run is within the addresses of its list, has one label, and the address after it has another one
  abbrev Within : ℕ → ℕ → Run → Type 0
  Within from to r = (from ≤ r.low) × (r.high < to) × HasOneLabel f r × (r.high + 1 < to → f (r.high + 1) ≢ r.label)

  each-run : (from to : ℕ) (rs : List Run) → AreRuns f from to rs → All (Within from to) rs
  each-run from to [] are = All-nil (Within from to)
  each-run from to (r ∷ rs) are =
      All-cons (Within from to) r rs (omega (arith, are.0), omega (arith, ordered f (r.high + 1) to rs are.3), are.1, are.2)
      (All-weaker (Within (r.high + 1) to) (Within from to)
      (λ s (low, high, one, next). (omega (arith, low, are.0, are.1.some), high, one, next)) rs (each-run (r.high + 1) to rs are.3))

  -- no run is empty, and none begins right after another with the same label
  pub apart-runs : (from to : ℕ) (rs : List Run) → AreRuns f from to rs → (r s : Run) → Contains rs r → Contains rs s
      → (r.low ≤ r.high) × (s.low ≡ r.high + 1 → s.label ≢ r.label)
  apart-runs from to rs are r s has_r has_s =
      let (low_r, high_r, one_r, differs) = All-contains (Within from to) rs r (each-run from to rs are) has_r in
      let (low_s, high_s, one_s, other) = All-contains (Within from to) rs s (each-run from to rs are) has_s in
      (one_r.some, λ next same. differs (omega (arith, next, one_s.some, high_s)) (ap f (sym next) ∙ first-label f s one_s ∙ same))
