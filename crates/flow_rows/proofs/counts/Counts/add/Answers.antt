use Rattle.std.proofs.Common.{◌≡◌, ◌∙◌, ◌+◌, [], ◌∷◌, ◌++◌, List, append_assoc, ap, arith, drop, length, length-append, sym, take}
use Rattle.std.proofs.lemmas.Grind.{flat_map-append}
use Rattle.std.proofs.lemmas.List.{append-nil, drop_more, take_all, take_more}
use Rattle.std.proofs.lemmas.List.Sums.{sum_by-cons}
use Rattle.ipfix_read.specs.declared.set.Set.{Set}
use Rattle.ipfix_read.specs.Message.{MessageView, message_size, set_size}
use Rattle.flow_rows.specs.Counts.{sets_of, counts_in}
use Rattle.flow_rows.proofs.counts.Counts.add.Goals as goal

pub loop-set-preserved : goal.loop-set-preserved
loop-set-preserved c =
    let sets = c.as_slice-set-items.result.now in
    let k = c.loop-set.set-index in
    let set = c.set-item.result in
    let left : drop k sets ≡ set ∷ drop (k + 1) sets =
    drop_more sets k set c.loop-set-test.true ∙ ap (λ (s : Set). s ∷ drop (k + 1) sets) (sym c.set-item.is) in
    let before : take k sets ++ set ∷ [] ≡ take (k + 1) sets =
    ap (λ (s : Set). take k sets ++ s ∷ []) c.set-item.is ∙ sym (take_more sets k set c.loop-set-test.true) in
    record {
      counted = λ messages is.
          c.add_set.ensures.counts (length messages + 1) (sets_of messages ++ take k sets) (c.loop-set.invariant.counted messages is)
          ∙ ap (counts_in (length messages + 1))
          (append_assoc (sets_of messages) (take k sets) (set ∷ []) ∙ ap (λ (more : List Set). sets_of messages ++ more) before);
      few = omega arith;
      room = omega (arith, ap message_size left, sum_by-cons set_size set (drop (k + 1) sets));
    }

pub returns : goal.returns
returns c = λ messages is.
    let sets = c.as_slice-set-items.result.now in
    let m = c.args.message.now in
    let those : sets_of messages ++ take c.loop-set.set-index sets ≡ sets_of (messages ++ m ∷ []) =
    ap (λ (more : List Set). sets_of messages ++ more)
    (take_all c.loop-set.set-index sets c.loop-set-test.false ∙ c.as_slice-set-items.ensures ∙ c.sets.ensures.value ∙ sym (append-nil m.sets))
    ∙ sym (flat_map-append (λ (message : MessageView). message.sets) messages (m ∷ [])) in
    c.loop-set.invariant.counted messages is ∙ (λ i. counts_in (sym (length-append messages (m ∷ [])) i) (those i))
