use Rattle.std.proofs.Common.{sym, ◌∙◌}
use Rattle.pmap_model.specs.MapText.{text_at}
use Rattle.cert_check.proofs.OneStretch.{range-clear}
use Rattle.cert_check.proofs.sources.Sources.is_clear.Goals as goal

pub returns-then-has_label : goal.returns-then-has_label
returns-then-has_label c = λ both o of.
    let s = c.args.self.now in
    range-clear s c.requires.sources o of (text_at s.limits.labels.now c.args.id.0) c.args.first c.args.last c.requires.within
    (sym (c.has_label.ensures o.map.labels s.limits.labels.now of.of_map c.requires.known) ∙ c.if-has_label.true)
    (sym (c.has_label-then-has_label.ensures o.list.labels s.limits.labels.now of.of_list c.requires.known) ∙ both)
