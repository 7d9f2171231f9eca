use Rattle.std.proofs.Common.{◌∙◌, ◌∷◌, [], ap, arith}
use Rattle.std.proofs.lemmas.List.{map-append, nil_from_length}
use Rattle.pmap_minimise.specs.Numbers.{numbers_of}
use Rattle.pmap_minimise.proofs.Merged.{merged-higher, merged-lower, merging-both, merging-higher, merging-lower}
use Rattle.pmap_minimise.proofs.sets.common.Goals as goal

pub returns-in_default-split_first : goal.returns-in_default-split_first
returns-in_default-split_first c =
    merged-lower _ _ _ _ _ (nil_from_length c.loop-x.higher.now c.in_default-split_first.ensures.cases) c.loop-x.invariant

pub loop-x-preserved-then-x-y : goal.loop-x-preserved-then-x-y
loop-x-preserved-then-x-y c =
    merging-lower _ _ _ c.in-Some.x.now c.in-Some-split_first.y.now _ _ _ _ c.in-Some.ensures.cases.0 c.in-Some-split_first.ensures.cases.0 c.loop-x.invariant
    c.if-x-y.true

pub loop-x-preserved-then-y-x : goal.loop-x-preserved-then-y-x
loop-x-preserved-then-y-x c =
    merging-higher _ _ _ c.in-Some.x.now c.in-Some-split_first.y.now _ _ _ _ c.in-Some.ensures.cases.0 c.in-Some-split_first.ensures.cases.0 c.loop-x.invariant
    c.if-y-x.true

pub loop-x-preserved : goal.loop-x-preserved
loop-x-preserved c =
    merging-both _ _ _ c.in-Some.x.now c.in-Some-split_first.y.now _ _ _ _ c.in-Some.ensures.cases.0 c.in-Some-split_first.ensures.cases.0 c.loop-x.invariant
    _ (omega arith) (ap numbers_of c.in_ok-push.ensures.ok ∙ map-append _ c.loop-x.set.items (c.in-Some.x.now ∷ []))

pub returns : goal.returns
returns c = merged-higher _ _ _ _ _ (nil_from_length c.loop-x.lower.now c.in_default.ensures.cases) c.loop-x.invariant
