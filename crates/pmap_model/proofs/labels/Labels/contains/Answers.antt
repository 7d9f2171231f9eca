use Rattle.std.proofs.Common.{◌∙◌}
use Rattle.pmap_model.proofs.LabelTexts.{is_some-number}
use Rattle.pmap_model.proofs.labels.Labels.contains.Goals as goal

pub returns : goal.returns
returns c = c.is_some.ensures ∙ is_some-number c.args.self.now c.args.text.now c.id_of.result c.id_of.ensures.value
