use Rattle.std.proofs.Common.{◌≡◌, ◌∙◌, ◌++◌, ◌-◌, ◌≤◌, None, Some, List, ℕ, ap, arith, length, rules, slice_get, subst, sym}
use Rattle.std.specs.BinaryHeap.{heap_items}
use Rattle.std.proofs.lemmas.Option.{none-some, same_Some}
use Rattle.pmap_stretches.specs.Sweep.{HasOneMore}
use Rattle.pmap_stretches.proofs.OpenNumbers.{one_left, one_more, one_pushed, one_right, pushed_ascends}
use Rattle.pmap_stretches.proofs.stretches.opened.Opened.push.Goals as goal
use Rattle.pmap_stretches.proofs.stretches.opened.Opened.push.Goals.{in-Some+else-number-last, in_default}

pub returns-then-number-last : goal.returns-then-number-last
returns-then-number-last c =
    let stack = c.self.inside.stack.items in
    let heap = heap_items c.self.inside.others in
    let more = heap_items c.push.new.self in
    subst (λ (old : List ℕ). HasOneMore old c.args.number (stack ++ more)) c.self.view_is
    (one_right c.args.number heap more stack (one_more c.args.number heap more c.in_ok-push.ensures.permutation))

pub invariant_of-self-2 : goal.invariant_of-self-2
invariant_of-self-2 c =
    let stack = c.self.inside.stack.items in
    let read = c.copied.ensures ∙ c.last.ensures.value ∙ ap (λ (l : List ℕ). slice_get l (length l - 1)) c.deref.ensures.value in
    let top : (k : ℕ) → slice_get stack (length stack - 1) ≡ Some k → k ≤ c.args.number = λ k is. elim c.match-copied.branch [
      | in-Some+else-number-last w ↦
          let same = same_Some w.in-Some.last k (sym w.in-Some.is ∙ read ∙ is) in
          omega (arith, same, w.if-number-last.false)
      | in_default w ↦
          let none : c.copied.result ≡ None = search rules in
          absurd (none-some k (sym none ∙ read ∙ is))
    ] in
    rw c.in_ok-push-2.ensures.items (pushed_ascends stack c.args.number c.self.invariant.0 top, c.self.invariant.1)

pub returns : goal.returns
returns c =
    let stack = c.self.inside.stack.items in
    let heap = heap_items c.self.inside.others in
    let one = one_left c.args.number stack _ heap (one_pushed c.args.number stack) in
    rw (c.in_ok-push-2.ensures.items, sym c.self.view_is) one
