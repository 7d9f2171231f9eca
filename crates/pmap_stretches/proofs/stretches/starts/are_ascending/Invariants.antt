use Rattle.std.proofs.Common.{◌≤◌}
use Rattle.std.specs.List.{AllAdjacentBelow}
use Rattle.pmap_stretches.proofs.stretches.starts.are_ascending.Given as goal

-- the statements so far are in order
abbrev pub invariant-loop-place : goal.invariant-loop-place
invariant-loop-place l = AllAdjacentBelow (λ x y. x.span.low.value ≤ y.span.low.value) l.statements l.place
