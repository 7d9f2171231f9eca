use Rattle.std.proofs.Common.{arith, map, refl, rules, subst}
use Rattle.std.proofs.lemmas.List.Sorted.{IsNonDecreasingBy-from_sort_by_key}
use Rattle.std.proofs.lemmas.Option.{same_Some}
use Rattle.std.specs.Global.{Vec}
use Rattle.pmap_stretches.specs.Starting.{IsOrder, NarrowStart, start_of_narrow}
use Rattle.pmap_stretches.proofs.StartLists.{narrow_more, narrow_order}
use Rattle.pmap_stretches.proofs.stretches.starts.narrow_starts.Goals as goal

pub loop-number-preserved : goal.loop-number-preserved
loop-number-preserved c =
    rw c.in_ok-push.ensures.items
    (narrow_more c.args.statements.now c.loop-number.number c.loop-number.starts.items c.in-Some.start c.at-low.result c.loop-number.invariant c.at-low.ensures
    (c.in-Some.ensures c.in-Some.start refl))

pub returns : goal.returns
returns c = λ starts is.
    subst (λ (v : Vec NarrowStart). IsOrder c.args.statements.now (map start_of_narrow v.items)) (same_Some _ starts is)
    (narrow_order c.args.statements.now c.loop-number.number c.loop-number.starts.items c.sort_unstable_by_key.new.self.items c.loop-number.invariant
    (omega (arith, c.len-number-end.ensures))
    c.sort_unstable_by_key.ensures.permutation
    (IsNonDecreasingBy-from_sort_by_key (λ start. start.low) _ c.sort_unstable_by_key.ensures.sorted (λ a r q k. search rules)))
