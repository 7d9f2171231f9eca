use Rattle.std.proofs.Common.{◌∙◌, ℕ, [], sym, ap₂, arith}
use Rattle.std.proofs.lemmas.Bool.{eqb-true}
use Rattle.std.proofs.lemmas.List.{length_push, nil_from_length}
use Rattle.std.proofs.lemmas.Result.{err_from_is_err_and}
use Rattle.ipfix_templates.specs.InForce.{InForce}
use Rattle.ipfix_templates.specs.Reading.{after_items}
use Rattle.ipfix_templates.proofs.Reading.{no_items}
use Rattle.ipfix_read.specs.Messages.{messages_from}
use Rattle.ipfix_read.proofs.Sets.{fault_kept, not_empty}
use Rattle.ipfix_read.proofs.Readings.{messages_end, messages_fault, messages_more}
use Rattle.ipfix_read.proofs.message.read_file.Goals as goal

pub loop-rest-init : goal.loop-rest-init
loop-rest-init c = rw c.new-messages.ensures (record {
  within = omega arith;
  counted = omega arith;
  read = no_items _ ∙ ap₂ (λ (t : InForce) (n : ℕ). after_items [] (messages_from t 0 n c.args.bytes.now)) (sym c.new-table.ensures) (omega arith);
})

pub returns-in_err-message : goal.returns-in_err-message
returns-in_err-message c =
    let p = err_from_is_err_and c.from_residual.result c.from_residual.ensures.1 in
    let rest = c.loop-rest.rest.now in
    rw (p.1, p.2) (fault_kept _ _ c.in_err-message.field-0.0
    (messages_fault _ c.loop-rest.messages _ _ _ rest c.loop-rest.invariant.read c.in_err-message.field-0.0 (not_empty rest (sym c.loop-rest-test.ensures)))
    c.in_err-message.ensures.read)

pub loop-rest-preserved : goal.loop-rest-preserved
loop-rest-preserved c =
    let now = c.loop-rest.invariant in
    let is = c.in_ok-message.ensures.read in
    rw c.in_ok-push.ensures.ok (record {
      within = omega (arith, c.in_ok-message.ensures.shorter, now.within);
      counted = omega (arith, length_push c.loop-rest.messages c.in_ok-message.message, now.counted);
      read = messages_more _ c.loop-rest.messages _ _ _ c.loop-rest.rest.now now.read c.in_ok-message.message c.in_ok-message.after.now _ _ _ is.0 is.1 (omega arith)
          (omega (arith, c.in_ok-message.ensures.shorter, now.within));
    })

pub returns : goal.returns
returns c =
    messages_end _ c.loop-rest.messages _ _ _ c.loop-rest.rest.now c.loop-rest.invariant.read (nil_from_length c.loop-rest.rest.now (eqb-true _ _ (sym c.loop-rest-test.ensures)))
