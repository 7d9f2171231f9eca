use Rattle.std.proofs.Common.{◌≡◌, ◌<◌, ℕ, suc, false}
use Rattle.prefix_keys.proofs.Gaps.{is_gap}
use Rattle.prefix_keys.proofs.text.colon.cut_gap.Given as goal

-- no `::` so far
abbrev pub invariant-loop-at : goal.invariant-loop-at
invariant-loop-at l = (k : ℕ) → suc k < l.at → is_gap l.text k ≡ false
