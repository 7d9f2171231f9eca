use Rattle.std.proofs.Common.{ℕ, [], ap, refl, sym, ◌∙◌, arith}
use Rattle.std.proofs.lemmas.Result.{err_from_is_err_and}
use Rattle.ipfix_templates.specs.InForce.{template_at}
use Rattle.ipfix_templates.specs.Reading.{after_items}
use Rattle.ipfix_templates.proofs.Reading.{no_items}
use Rattle.ipfix_read.specs.Set.{after_set, sets_reading}
use Rattle.ipfix_read.proofs.Sets.{after_more, fault_kept, sets_end, sets_fault, sets_more, message_size_push}
use Rattle.ipfix_read.proofs.set.read_sets.Goals as goal

pub loop-rest-init : goal.loop-rest-init
loop-rest-init c = rw c.requires.none (record {
  within = omega arith;
  read = no_items _ ∙ ap (λ (n : ℕ). after_items [] (sets_reading (template_at c.args.table.now) c.args.domain n c.args.bytes.now)) (omega arith);
  table = refl;
})

pub returns-in_err-set-clause-read : goal.returns-in_err-set-clause-read
returns-in_err-set-clause-read c =
    let p = err_from_is_err_and c.from_residual.result c.from_residual.ensures.1 in
    rw (p.1, p.2) (fault_kept _ _ c.in_err-set.field-0.0 (λ found.
    sets_fault c.args.domain _ c.loop-rest.sets _ _ c.loop-rest.rest.now c.loop-rest.invariant.read _ (sym c.loop-rest-test.ensures) found)
    c.in_err-set.ensures.read)

pub loop-rest-preserved : goal.loop-rest-preserved
loop-rest-preserved c =
    let is = c.in_ok-set.ensures.read in
    rw c.in_ok-push.ensures.ok (record {
      within = omega (arith, message_size_push c.loop-rest.sets c.in_ok-set.set, c.in_ok-set.ensures.size, c.loop-rest.invariant.within);
      read = sets_more c.args.domain _ c.loop-rest.sets _ _ c.loop-rest.rest.now c.loop-rest.invariant.read c.in_ok-set.set c.in_ok-set.after.now _ _ (sym c.loop-rest-test.ensures) is.0
          (omega (arith, c.in_ok-set.ensures.size, c.loop-rest.invariant.within)) is.1;
      table = is.1 ∙ ap (λ templates. after_set c.args.domain templates c.in_ok-set.set) c.loop-rest.invariant.table
          ∙ after_more (after_set c.args.domain) (template_at c.args.table.now) c.loop-rest.sets c.in_ok-set.set;
    })

pub returns-clause-read : goal.returns-clause-read
returns-clause-read c =
    (sets_end c.args.domain _ c.loop-rest.sets _ _ c.loop-rest.rest.now c.loop-rest.invariant.read (sym c.loop-rest-test.ensures), c.loop-rest.invariant.table)
