use Rattle.std.proofs.Common.{◌≡◌, ◌∙◌, ◌-◌, Some, List, ℕ, ap, arith, length, slice_get, subst, sym}
use Rattle.std.specs.BinaryHeap.{heap_items}
use Rattle.std.proofs.lemmas.Option.{IfSome_then}
use Rattle.pmap_stretches.specs.Sweep.{IsGreatest}
use Rattle.pmap_stretches.proofs.OpenNumbers.{both_greatest, peeked, stack_greatest}
use Rattle.pmap_stretches.proofs.stretches.opened.Opened.greatest.Goals as goal

pub returns : goal.returns
returns c =
    let stack = c.self.inside.stack.items in
    let heap = heap_items c.self.inside.others in
    let top : slice_get stack (length stack - 1) ≡ Some c.in-Some.last =
    sym (c.copied.ensures ∙ c.last.ensures.value ∙ ap (λ (l : List ℕ). slice_get l (length l - 1)) c.deref.ensures.value) ∙ c.in-Some.is in
    let other = peeked heap c.peek-2.result c.in-Some-copied.other (sym c.copied-2.ensures ∙ c.in-Some-copied.is)
    (λ some. omega (arith, c.peek-2.ensures.variant.0 some)) c.peek-2.ensures.lookup
    (IfSome_then c.peek-2.result c.peek-2.ensures.greatest (λ b bound. bound c.self.invariant.1)) in
    let both = both_greatest stack heap c.in-Some.last c.in-Some-copied.other (subst (IsGreatest stack) top (stack_greatest stack c.self.invariant.0)) other in
    rw (c.self.view_is, sym c.max.ensures) at both
