use Rattle.std.proofs.Common.{arith}
use Rattle.std.proofs.lemmas.List.Sorted.{IsNonDecreasingBy-from_all_adjacent}
use Rattle.pmap_stretches.proofs.stretches.starts.are_ascending.Goals as goal

pub returns : goal.returns
returns c = λ t.
    IsNonDecreasingBy-from_all_adjacent (λ s. s.span.low.value) c.args.statements.now
    (λ k d within. c.loop-place.invariant k d (omega (arith, within)))
