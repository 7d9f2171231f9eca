use Rattle.std.proofs.Common.{◌==◌, ◌&&◌, ◌∙◌, ap, sym}
use Rattle.std.proofs.lemmas.Bool.{or_from}
use Rattle.std.proofs.lemmas.List.Folds.{list_any_at, list_any_more}
use Rattle.std.proofs.lemmas.Option.{get_or_from_slice_get, slice_get_within}
use Rattle.pmap_model.specs.declared.entry.Entry.{Entry}
use Rattle.pmap_text.proofs.reading.repeats.has_block.Goals as goal

pub returns-then-is_for : goal.returns-then-is_for
returns-then-is_for c =
    let es = c.args.entries.now in
    let e = c.at.result in
    let block = c.args.block.now in
    let test = λ (e : Entry). e.block.value == block.value && e.block.len == block.len in
    sym (list_any_at test es c.loop-place.place e (slice_get_within es c.loop-place.place e c.at.ensures)
    (ap test (get_or_from_slice_get es c.loop-place.place e e c.at.ensures) ∙ sym c.is_for.ensures ∙ c.if-is_for.true))

pub loop-place-preserved : goal.loop-place-preserved
loop-place-preserved c =
    let es = c.args.entries.now in
    let e = c.at.result in
    let block = c.args.block.now in
    let test = λ (e : Entry). e.block.value == block.value && e.block.len == block.len in
    list_any_more test es c.loop-place.place e (slice_get_within es c.loop-place.place e c.at.ensures)
    ∙ or_from _ _ c.loop-place.invariant
    (ap test (get_or_from_slice_get es c.loop-place.place e e c.at.ensures) ∙ sym c.is_for.ensures ∙ c.if-is_for.false)
