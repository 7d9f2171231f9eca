use Rattle.std.proofs.Common.{◌∙◌, ◌∷◌, [], ap, arith}
use Rattle.std.proofs.lemmas.List.{map-append, nil_from_length}
use Rattle.pmap_minimise.specs.Numbers.{numbers_of}
use Rattle.pmap_minimise.proofs.Merged.{united-higher, united-lower, uniting-both, uniting-higher, uniting-lower}
use Rattle.pmap_minimise.proofs.sets.either.Goals as goal

pub returns-in_default-split_first-clause-ascending : goal.returns-in_default-split_first-clause-ascending
returns-in_default-split_first-clause-ascending c =
    let all = united-lower _ _ _ _ c.loop-x.higher.now _ (nil_from_length c.loop-x.higher.now c.in_default-split_first.ensures.cases) (ap numbers_of c.in_ok-extend_from_slice.ensures.ok ∙ map-append _ c.loop-x.set.items c.loop-x.lower.now) c.loop-x.invariant in
    all.ascending

pub loop-x-preserved-then-x-y : goal.loop-x-preserved-then-x-y
loop-x-preserved-then-x-y c =
    uniting-lower _ _ _ _ c.in-Some.x.now c.in-Some-split_first.y.now _ _ _ _ c.in-Some.ensures.cases.0 c.in-Some-split_first.ensures.cases.0 c.loop-x.invariant
    c.if-x-y.true (ap numbers_of c.in_ok-push.ensures.ok ∙ map-append _ c.loop-x.set.items (c.in-Some.x.now ∷ []))

pub loop-x-preserved-then-y-x : goal.loop-x-preserved-then-y-x
loop-x-preserved-then-y-x c =
    uniting-higher _ _ _ _ c.in-Some.x.now c.in-Some-split_first.y.now _ _ _ _ c.in-Some.ensures.cases.0 c.in-Some-split_first.ensures.cases.0 c.loop-x.invariant
    c.if-y-x.true (ap numbers_of c.in_ok-push-2.ensures.ok ∙ map-append _ c.loop-x.set.items (c.in-Some-split_first.y.now ∷ []))

pub loop-x-preserved : goal.loop-x-preserved
loop-x-preserved c =
    uniting-both _ _ _ _ c.in-Some.x.now c.in-Some-split_first.y.now _ _ _ _ c.in-Some.ensures.cases.0 c.in-Some-split_first.ensures.cases.0 c.loop-x.invariant
    (omega arith) (ap numbers_of c.in_ok-push-3.ensures.ok ∙ map-append _ c.loop-x.set.items (c.in-Some.x.now ∷ []))

pub returns-clause-ascending : goal.returns-clause-ascending
returns-clause-ascending c =
    let all = united-higher _ _ _ c.loop-x.lower.now _ _ (nil_from_length c.loop-x.lower.now c.in_default.ensures.cases) (ap numbers_of c.in_ok-extend_from_slice-2.ensures.ok ∙ map-append _ c.loop-x.set.items c.loop-x.higher.now) c.loop-x.invariant in
    all.ascending
