use Rattle.std.proofs.Common.{◌∙◌, refl}
use Rattle.pmap_model.specs.MapText.{text_at}
use Rattle.cert_check.proofs.OneStretch.{held_label}
use Rattle.cert_check.proofs.source.Source.has_label_at.Goals as goal

pub returns-then-has_range : goal.returns-then-has_range
returns-then-has_range c from to is known =
    let s = c.args.self.now.stretches.now in
    (rw (c.as_slice.ensures.value, c.label.ensures) at c.is_label.ensures) from to is known
    ∙ held_label from s c.laws.ensures.every c.args.index c.args.first c.args.last (text_at to c.args.id.0) (c.if-has_range.ensures.first refl) (c.if-has_range.ensures.last refl)
