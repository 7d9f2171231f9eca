use Rattle.std.proofs.Common.{[], ap, not, sym, subst, ◌∙◌}
use Rattle.std.proofs.lemmas.Option.{get_or_from_slice_get, slice_get_within}
use Rattle.pmap_text.proofs.Filed.{AreFiled, filed_more, filed_repeat, none_filed}
use Rattle.pmap_text.proofs.reading.repeats.find_repeat.Goals as goal

pub loop-place-init : goal.loop-place-init
loop-place-init c = λ table. subst (AreFiled []) (sym c.new-keys.ensures.empty) none_filed

pub returns-then-not-new : goal.returns-then-not-new
returns-then-not-new c = λ table.
    let es = c.args.entries.now in
    let e = c.at.result in
    filed_repeat table es c.loop-place.place e c.loop-place.keys.keys (slice_get_within es c.loop-place.place e c.at.ensures)
    (sym (get_or_from_slice_get es c.loop-place.place e e c.at.ensures))
    (c.loop-place.invariant table) (c.in_ok-new.ensures.new ∙ ap not c.if-not-new.true)

pub loop-place-preserved : goal.loop-place-preserved
loop-place-preserved c = λ table.
    let es = c.args.entries.now in
    let e = c.at.result in
    filed_more table es c.loop-place.place e c.loop-place.keys.keys c.add_key.new.keys.keys (slice_get_within es c.loop-place.place e c.at.ensures)
    (sym (get_or_from_slice_get es c.loop-place.place e e c.at.ensures))
    (c.loop-place.invariant table) (c.in_ok-new.ensures.new ∙ ap not c.if-not-new.false) (c.in_ok-new.ensures.ok c.if-not-new.false)
