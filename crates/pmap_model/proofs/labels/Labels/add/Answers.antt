use Rattle.std.proofs.Common.{None, sym, ◌∙◌, true≢false}
use Rattle.pmap_model.proofs.LabelTexts.{has_label-number, is_some-number, with_label-known}
use Rattle.pmap_model.proofs.labels.Labels.add.Goals as goal

pub returns-in-Some-clause-ok : goal.returns-in-Some-clause-ok
returns-in-Some-clause-ok c = sym (with_label-known c.args.self.now c.args.text.now (has_label-number c.args.self.now c.args.text.now c.in-Some.id.0 (sym c.in-Some.ensures.value)))

pub returns-in-None-clause-known : goal.returns-in-None-clause-known
returns-in-None-clause-known c = λ h. absurd (true≢false (sym h ∙ sym (is_some-number c.args.self.now c.args.text.now None c.in-None.ensures.value)))
