use Rattle.std.proofs.Common.{◌∙◌, ◌^◌, List, ap, arith, subst, sym}
use Rattle.pmap_model.specs.declared.label.LabelId.{LabelId}
use Rattle.pmap_cert.specs.CertificateText.{IsAscending}
use Rattle.cert_check.specs.Inner.{has_number}
use Rattle.cert_check.proofs.Lists.{slice-from}
use Rattle.cert_check.proofs.Sets.{numbers, step-kept, step-ascending}
use Rattle.cert_check.proofs.claims.rest_from.Goals as goal

pub loop-first-preserved : goal.loop-first-preserved
loop-first-preserved c =
    let rest = c.loop-first.rest.now in
    let here = sym c.in-Some.ensures.value in
    record {
      ascending = subst (λ (t : List LabelId). IsAscending (2 ^ 32) 0 (numbers t)) (sym (slice-from rest 1))
          (step-ascending (2 ^ 32) rest c.in-Some.first.now here c.loop-first.invariant.ascending);
      kept = λ n le.
          ap (λ (t : List LabelId). has_number (numbers t) n) (slice-from rest 1)
          ∙ step-kept rest c.in-Some.first.now n here (omega (arith, le)) ∙ c.loop-first.invariant.kept n le;
    }
