use Rattle.std.proofs.Common.{[], map, refl, sym, subst}
use Rattle.std.proofs.lemmas.Option.{none-some}
use Rattle.std.specs.List.{IsDistinct}
use Rattle.pmap_text.specs.Declarations.{ArePaired}
use Rattle.pmap_text.proofs.reading.declarations.Declarations.new.Goals as goal

none_paired : ArePaired [] []
unfolding IsDistinct
none_paired = record { same_count = refl; numbers_once = tt; texts_once = tt; labels = λ i text e. absurd (none-some text e) }

pub invariant_of-result : goal.invariant_of-result
invariant_of-result c =
    subst (λ numbers. ArePaired numbers (map (λ v. v.items) c.with_hasher-2.result.keys)) (sym c.with_hasher.ensures.empty)
    (subst (λ keys. ArePaired [] (map (λ v. v.items) keys)) (sym c.with_hasher-2.ensures.empty) none_paired)
