use Rattle.std.proofs.Common.{sym, subst, ap, ◌∙◌, arith}
use Rattle.std.specs.List.{IsDistinct}
use Rattle.std.proofs.lemmas.List.{take_all}
use Rattle.flow_uniq.specs.Key.{same_field, with_unit}
use Rattle.flow_uniq.proofs.Reading.{field_added, field_twice, none_there}
use Rattle.flow_uniq.proofs.keys.Keys.by_time.Goals as goal

pub invariant_of-keys : goal.invariant_of-keys
invariant_of-keys c = subst (IsDistinct same_field) (sym c.new.ensures) none_there

pub returns-then-not-add : goal.returns-then-not-add
returns-then-not-add c =
    field_twice c.args.unit c.args.fields.now c.loop-field.field-index _ _ c.field-item.is c.loop-field-test.true c.loop-field.keys c.loop-field.invariant
    c.add-in-loop-field.result c.if-not-add.true c.add-in-loop-field.ensures.new

pub loop-field-preserved : goal.loop-field-preserved
loop-field-preserved c =
    field_added c.args.unit c.args.fields.now c.loop-field.field-index _ _ c.field-item.is c.loop-field-test.true c.loop-field.keys c.loop-field.invariant
    c.add-in-loop-field.result c.if-not-add.false c.add-in-loop-field.ensures.new c.add-in-loop-field.new.self c.add-in-loop-field.ensures.fields

pub returns : goal.returns
returns c = c.loop-field.invariant ∙ ap (with_unit c.args.unit) (take_all c.loop-field.field-index c.args.fields.now (omega (arith, c.loop-field-test.false)))
