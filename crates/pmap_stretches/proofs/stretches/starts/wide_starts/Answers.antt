use Rattle.std.proofs.Common.{arith, rules}
use Rattle.std.proofs.lemmas.List.Sorted.{IsNonDecreasingBy-from_sort_by_key}
use Rattle.pmap_stretches.proofs.StartLists.{first_more, sorted_order}
use Rattle.pmap_stretches.proofs.stretches.starts.wide_starts.Goals as goal

pub loop-number-preserved : goal.loop-number-preserved
loop-number-preserved c =
    rw c.in_ok-push.ensures.items
    (first_more c.args.statements.now c.loop-number.number c.loop-number.starts.items c.at-low.result c.loop-number.invariant c.at-low.ensures)

pub returns : goal.returns
returns c =
    sorted_order c.args.statements.now c.loop-number.number c.loop-number.starts.items c.sort_unstable_by_key.new.self.items c.loop-number.invariant
    (omega (arith, c.len-number-end.ensures))
    c.sort_unstable_by_key.ensures.permutation
    (IsNonDecreasingBy-from_sort_by_key (λ start. start.low) _ c.sort_unstable_by_key.ensures.sorted (λ a r q k. search rules))
