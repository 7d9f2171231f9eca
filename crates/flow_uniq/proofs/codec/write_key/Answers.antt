use Rattle.label_lookup.specs.Labelling.{label_where, labelling_borrowed}
use Rattle.flow_uniq.specs.Key.{key_part}
use Rattle.flow_uniq.proofs.Cutting.{all_written}
use Rattle.flow_uniq.proofs.codec.write_key.Goals as goal

pub returns-clause-code : goal.returns-clause-code
returns-clause-code g c =
    (all_written (key_part (label_where (labelling_borrowed g.L.Labeller.version_of g.L.Labeller.label c.args.labeller)) c.args.row.now)
    c.loop-field.rest.now _ _ c.in_default.ensures.cases c.loop-field.invariant.code c.loop-field.invariant.small).0

pub returns-clause-key : goal.returns-clause-key
returns-clause-key g c =
    (all_written (key_part (label_where (labelling_borrowed g.L.Labeller.version_of g.L.Labeller.label c.args.labeller)) c.args.row.now)
    c.loop-field.rest.now _ _ c.in_default.ensures.cases c.loop-field.invariant.code c.loop-field.invariant.small).1
