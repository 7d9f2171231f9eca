use Rattle.std.proofs.Common.{◌∙◌, ◌∷◌, [], ap}
use Rattle.std.proofs.lemmas.List.{map-append}
use Rattle.std.proofs.lemmas.Bool.{ltb-true}
use Rattle.pmap_minimise.specs.Numbers.{numbers_of}
use Rattle.pmap_minimise.proofs.Merged.{apart}
use Rattle.pmap_minimise.proofs.sets.are_apart.Goals as goal

pub returns-in-Some-Some : goal.returns-in-Some-Some
returns-in-Some-Some c = λ less.
    let low_is = c.in-Some-Some.ensures.cases.0 in
    let high_is = c.in-Some-Some.ensures'.cases.0 in
    apart _ _ _ _ _ _ (ap numbers_of low_is ∙ map-append _ c.in-Some-Some.field-0-1-0.now (c.in-Some-Some.last.now ∷ [])) (ap numbers_of high_is)
    (ltb-true _ _ less) c.requires.low c.requires.high
