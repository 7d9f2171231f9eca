use Rattle.std.proofs.Common.{◌∙◌, ◌+◌, ◌≤◌, ℕ, arith, sym}
use Rattle.pmap_stretches.specs.Sweep.{HasTop}
use Rattle.pmap_stretches.proofs.Stretched.{stretches_longer, stretches_more}
use Rattle.pmap_stretches.proofs.Winners.{agree, differ}
use Rattle.pmap_stretches.proofs.stretches.growing.Growing.extend.Goals as goal
use Rattle.pmap_stretches.proofs.stretches.growing.Growing.extend.Goals.{then-ne+in_ok-push, else-ne}

pub returns-clause-are : goal.returns-clause-are
returns-clause-are c = λ ss default are label wins.
    let old = c.args.self.now in
    let above : old.last + 1 ≤ c.args.last = omega (arith, c.if-last-self.false) in
    let top = c.top_of-top.result in
    let has : (a : ℕ) → old.last + 1 ≤ a → a ≤ c.args.last → HasTop ss default old.joined top c.args.label a =
    λ a from to. record { won = c.args.won; wins = wins a from to; label_is = label; top_is = c.top_of-top.ensures } in
    elim c.if-ne.branch [
      | then-ne+in_ok-push w ↦
          let self = w.self-is in
          let pushed = w.in_ok-push.ensures in
          rw self (stretches_more ss default old are top c.args.label c.args.last above has w.push.new.self pushed.every
          (record { version = pushed.version; firsts = pushed.firsts; labels = pushed.labels })
          (differ top old.top (sym w.if-ne.true ∙ c.ne.ensures)))
      | else-ne w ↦
          let self = w.self-is in
          rw self (stretches_longer ss default old are top c.args.label c.args.last above has (agree top old.top (sym w.if-ne.false ∙ c.ne.ensures)))
    ]
