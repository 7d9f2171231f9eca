use Rattle.std.proofs.Common.{◌≡◌, ◌∙◌, ◌++◌, ◌-◌, ◌≢◌, Some, List, ℕ, ap, arith, get_or, length, not, slice_get, subst, sym}
use Rattle.std.specs.BinaryHeap.{heap_items, heap_len}
use Rattle.std.specs.Option.{option_to_list}
use Rattle.std.proofs.lemmas.Option.{IfSome_then, slice_get-get_or, slice_get_within}
use Rattle.pmap_stretches.specs.Sweep.{HasOneMore, IsGreatest}
use Rattle.pmap_stretches.proofs.OpenNumbers.{heap_removed, one_left, one_pushed}
use Rattle.pmap_stretches.proofs.Winners.{agree, differ}
use Rattle.pmap_stretches.proofs.stretches.opened.Opened.remove.Goals as goal

pub returns-then-eq : goal.returns-then-eq
returns-then-eq c =
    let opened = c.self.inside.stack in
    let stack = opened.items in
    let number = c.args.number in
    let read = c.copied.ensures ∙ c.last.ensures.value ∙ ap (λ (l : List ℕ). slice_get l (length l - 1)) c.deref.ensures.value in
    let top = sym read ∙ agree c.copied.result (Some number) (sym (ap not (sym c.eq.ensures ∙ c.if-eq.true))) in
    let some = slice_get_within stack (length stack - 1) number top in
    let popped = c.pop.ensures.value 0 (omega (arith, some, opened.ok.0)) ∙ ap (λ (k : ℕ). Some (get_or stack (k - 1) 0)) opened.ok.0
    ∙ sym (slice_get-get_or stack (length stack - 1) 0 some) ∙ top in
    let whole = c.pop.ensures.items ∙ ap (λ r. c.pop.new.self.items ++ option_to_list r) popped in
    let heap = heap_items c.self.inside.others in
    let one = one_left number c.pop.new.self.items _ heap (one_pushed number c.pop.new.self.items) in
    subst (HasOneMore (c.pop.new.self.items ++ heap) number) (ap (λ (l : List ℕ). l ++ heap) (sym whole) ∙ c.self.view_is) one

pub returns-else-eq : goal.returns-else-eq
returns-else-eq c =
    let stack = c.self.inside.stack.items in
    let heap = heap_items c.self.inside.others in
    let rest = heap_items c.pop-else-eq.new.self in
    let number = c.args.number in
    let popped = c.pop-else-eq.ensures in
    let read = c.copied.ensures ∙ c.last.ensures.value ∙ ap (λ (l : List ℕ). slice_get l (length l - 1)) c.deref.ensures.value in
    let other : slice_get stack (length stack - 1) ≢ Some number = λ is.
    differ c.copied.result (Some number) (sym (ap not (sym c.eq.ensures ∙ c.if-eq.false))) (read ∙ is) in
    let removed = heap_removed stack heap rest number c.self.invariant.0 other
    (subst (λ (l : List ℕ). IsGreatest l (Some number)) (sym c.self.view_is) c.requires) c.pop-else-eq.result
    (λ gone. let none : heap_len c.self.inside.others ≡ 0 = rw gone at popped.none in omega (arith, none)) popped.permutation
    (IfSome_then c.pop-else-eq.result popped.below_top (λ x bound. bound c.self.invariant.1)) in
    subst (HasOneMore (stack ++ rest) number) c.self.view_is removed
