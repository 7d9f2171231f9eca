use Rattle.std.proofs.Common.{ℕ, ◌-◌, [], length, ap, arith, ◌∙◌}
use Rattle.std.proofs.lemmas.List.{length_push}
use Rattle.ipfix_templates.specs.Reading.{after_items}
use Rattle.ipfix_templates.proofs.Reading.{no_items}
use Rattle.ipfix_templates.proofs.Records.{event_more, events_end, events_from, record_shorter}
use Rattle.ipfix_templates.proofs.set.read_template_set.Goals as goal

pub loop-rest-init : goal.loop-rest-init
loop-rest-init c = rw c.new-events.ensures (record { fits = omega arith; read = no_items _ ∙ ap (λ (n : ℕ). after_items [] (events_from c.args.kind n c.args.bytes.now)) (omega arith) })

pub loop-rest-smaller : goal.loop-rest-smaller
loop-rest-smaller c = omega (arith, record_shorter c.args.kind c.loop-rest.rest.now (c.in_ok-event.event, c.in_ok-event.after.now) c.loop-rest-test.true c.in_ok-event.ensures.ok)

pub loop-rest-preserved : goal.loop-rest-preserved
loop-rest-preserved c =
    let less = record_shorter c.args.kind c.loop-rest.rest.now (c.in_ok-event.event, c.in_ok-event.after.now) c.loop-rest-test.true c.in_ok-event.ensures.ok in
    rw c.in_ok-push.ensures.ok (record {
      fits = omega (arith, less, c.loop-rest.invariant.fits, length_push c.loop-rest.events c.in_ok-event.event);
      read = event_more c.args.kind _ c.loop-rest.events (length c.args.bytes.now - length c.loop-rest.rest.now) c.loop-rest.rest.now c.loop-rest.invariant.read c.in_ok-event.event c.in_ok-event.after.now _ c.loop-rest-test.true c.in_ok-event.ensures.ok
          (omega (arith, less, c.loop-rest.invariant.fits));
    })

pub returns-clause-ok : goal.returns-clause-ok
returns-clause-ok c = events_end c.args.kind _ c.loop-rest.events _ c.loop-rest.rest.now c.loop-rest.invariant.read c.loop-rest-test.false
