use Rattle.std.proofs.Common.{List, length, subst, sym}
use Rattle.pmap_model.specs.MapModel.{Label}
use Rattle.pmap_stretches.specs.Stretches.{AreLabelsBelow}
use Rattle.cert_check.proofs.swept.Swept.copied_from_list.Goals as goal

pub returns-clause-known : goal.returns-clause-known
returns-clause-known c =
    subst (λ (t : List Label). AreLabelsBelow (length t) c.in_ok-stretches.stretches) (sym c.in_ok-labels.ensures) c.in_ok-stretches.ensures.known
