use Rattle.std.proofs.Common.{◌++◌, ◌∷◌, ◌∙◌, [], ap, sym, take}
use Rattle.std.proofs.lemmas.List.{take_more}
use Rattle.std.proofs.lemmas.Option.{get_or_from_slice_get, slice_get_within}
use Rattle.pmap_model.proofs.packed_list.PackedList.to_vec.Goals as goal

pub loop-index-preserved : goal.loop-index-preserved
loop-index-preserved g c =
    let items = c.args.self.now in
    let index = c.loop-index.index in
    let item = c.at.result in
    c.in_ok-push.ensures.items
    ∙ ap (λ l. l ++ item ∷ []) c.loop-index.invariant
    ∙ sym (take_more items index item (slice_get_within items index item c.at.ensures)
    ∙ ap (λ x. take index items ++ x ∷ []) (get_or_from_slice_get items index item item c.at.ensures))
