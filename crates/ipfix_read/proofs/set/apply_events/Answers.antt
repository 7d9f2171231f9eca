use Rattle.std.proofs.Common.{Some, rules, refl, ap, ◌∙◌}
use Rattle.std.specs.Prelude.{fold}
use Rattle.std.proofs.lemmas.List.{take_all}
use Rattle.ipfix_templates.specs.InForce.{after_event, changed_at, template_at}
use Rattle.ipfix_templates.specs.declared.template.Template.{Template}
use Rattle.ipfix_read.proofs.Sets.{after_taken}
use Rattle.ipfix_read.proofs.set.apply_events.Goals as goal
use Rattle.ipfix_read.proofs.set.apply_events.Goals.{in-Define+in_ok-clone-in-Define+in_ok-set-in-Define, in-Withdraw, in-WithdrawAll}

pub loop-event-init : goal.loop-event-init
loop-event-init c = refl

pub loop-event-preserved : goal.loop-event-preserved
loop-event-preserved c =
    let more = after_taken (template_at c.args.table.now) c.args.domain c.as_slice-event-items.result.now c.loop-event.event-index c.event-item.result c.loop-event-test.true in
    let before = c.loop-event.invariant in
    rw (← more, ← before) (elim c.match-event.branch [
      | in-Define+in_ok-clone-in-Define+in_ok-set-in-Define w ↦ rw (w.table-is, ← c.event-item.is, w.in-Define.is) (w.in_ok-set-in-Define.ensures.ok ∙ ap (λ (t : Template). changed_at (template_at c.loop-event.table) c.args.domain t.id (Some t)) (search rules))
      | in-Withdraw w ↦ rw (w.table-is, ← c.event-item.is, w.in-Withdraw.is) w.withdraw.ensures
      | in-WithdrawAll w ↦ rw (w.table-is, ← c.event-item.is, w.in-WithdrawAll.is) w.withdraw_all.ensures
    ])

pub returns : goal.returns
returns c =
    let whole = take_all c.loop-event.event-index c.as_slice-event-items.result.now c.loop-event-test.false ∙ c.as_slice-event-items.ensures in
    c.loop-event.invariant ∙ ap (fold (after_event c.args.domain) (template_at c.args.table.now)) whole
