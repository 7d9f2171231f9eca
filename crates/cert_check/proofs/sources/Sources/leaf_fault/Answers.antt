use Rattle.std.proofs.Common.{sym, ◌∙◌}
use Rattle.pmap_model.specs.MapText.{text_at}
use Rattle.cert_check.specs.Inner.{has_one_label}
use Rattle.cert_check.proofs.OneStretch.{fault_by, leaf-at}
use Rattle.cert_check.proofs.sources.Sources.leaf_fault.Goals as goal

pub returns-then-not-has_label : goal.returns-then-not-has_label
returns-then-not-has_label c = λ o of n q range.
    let s = c.args.self.now in
    let are = c.requires.sources in
    let x = text_at s.limits.labels.now c.args.id.0 in
    sym (leaf-at s are o of x c.args.first c.args.last n q range
    ∙ (λ i. fault_by s are o of x ((sym (c.has_label.ensures o.map.labels s.limits.labels.now of.of_map c.requires.known) ∙ c.if-not-has_label.true) i)
    (has_one_label o.list.labels s.of_list.stretches.now c.args.first c.args.last x)))

pub returns-then-not-has_label-2 : goal.returns-then-not-has_label-2
returns-then-not-has_label-2 c = λ o of n q range.
    let s = c.args.self.now in
    let are = c.requires.sources in
    let x = text_at s.limits.labels.now c.args.id.0 in
    sym (leaf-at s are o of x c.args.first c.args.last n q range
    ∙ (λ i. fault_by s are o of x ((sym (c.has_label.ensures o.map.labels s.limits.labels.now of.of_map c.requires.known) ∙ c.if-not-has_label.false) i)
    ((sym (c.has_label-2.ensures o.list.labels s.limits.labels.now of.of_list c.requires.known) ∙ c.if-not-has_label-2.true) i)))

pub returns : goal.returns
returns c = λ o of n q range.
    let s = c.args.self.now in
    let are = c.requires.sources in
    let x = text_at s.limits.labels.now c.args.id.0 in
    sym (leaf-at s are o of x c.args.first c.args.last n q range
    ∙ (λ i. fault_by s are o of x ((sym (c.has_label.ensures o.map.labels s.limits.labels.now of.of_map c.requires.known) ∙ c.if-not-has_label.false) i)
    ((sym (c.has_label-2.ensures o.list.labels s.limits.labels.now of.of_list c.requires.known) ∙ c.if-not-has_label-2.false) i)))
