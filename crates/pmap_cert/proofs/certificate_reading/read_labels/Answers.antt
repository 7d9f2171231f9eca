use Rattle.std.proofs.Common.{◌∙◌, List, arith}
use Rattle.std.proofs.lemmas.Result.{err_from_is_err_and}
use Rattle.std.proofs.lemmas.List.{length_push}
use Rattle.pmap_model.proofs.LabelTexts.{with_label-new}
use Rattle.pmap_model.specs.MapModel.{Label}
use Rattle.pmap_cert.proofs.ReadingSteps.{labels_at-fault, labels_at-next}
use Rattle.pmap_cert.proofs.certificate_reading.read_labels.Goals as goal

pub returns-in_err-label-clause-err : goal.returns-in_err-label-clause-err
returns-in_err-label-clause-err c =
    let p = err_from_is_err_and c.from_residual.result c.from_residual.ensures.1 in
    rw (p.1, p.2)
    (λ _. labels_at-fault c.args.count c.loop-labels.labels c.loop-labels.lines _ c.loop-labels.invariant.read c.in_err-label.field-0.0
    (omega (arith, c.len.ensures, c.loop-labels-test.true)) c.in_err-label.ensures.err)

pub loop-labels-preserved : goal.loop-labels-preserved
loop-labels-preserved c =
    let table : List Label = c.loop-labels.labels in
    let less = c.loop-labels-test.true in
    let new = c.in_ok-add.ensures.ok ∙ with_label-new table c.in_ok-label.label.now c.in_ok-label.ensures.new in
    rw new (record {
      read =
          labels_at-next c.args.count table c.loop-labels.lines _ c.loop-labels.invariant.read c.in_ok-label.label.now c.in_ok-label.after
          (omega (arith, c.len.ensures, less)) c.in_ok-label.ensures.ok;
      few = omega (arith, length_push table c.in_ok-label.label.now, c.len.ensures, less);
    })
