use Rattle.std.proofs.Common.{◌≡◌, take}
use Rattle.std.specs.Prelude.{fold}
use Rattle.ipfix_templates.specs.InForce.{after_event, template_at}
use Rattle.ipfix_read.proofs.set.apply_events.Given as goal

abbrev pub invariant-loop-event : goal.invariant-loop-event
invariant-loop-event l = template_at l.table ≡ fold (after_event l.domain) (template_at l.initial.table) (take l.event-index l.event-items)
