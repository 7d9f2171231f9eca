-- The bytes are followed by those of the other parts.
use Rattle.std.proofs.Common.{◌≡◌, ◌++◌, length}
use Rattle.label_lookup.specs.Labelling.{label_where, labelling_borrowed}
use Rattle.flow_uniq.specs.Key.{key_of}
use Rattle.flow_uniq.specs.Codes.{AreSmall, key_code}
use Rattle.flow_uniq.proofs.codec.write_key.Given as goal

abbrev pub invariant-loop-field : goal.invariant-loop-field
invariant-loop-field g l = record {
  code : l.out.items ++ key_code (key_of (label_where (labelling_borrowed g.L.Labeller.version_of g.L.Labeller.label l.labeller)) l.rest l.row)
      ≡ key_code (key_of (label_where (labelling_borrowed g.L.Labeller.version_of g.L.Labeller.label l.labeller)) l.fields l.row);
  small : AreSmall (key_of (label_where (labelling_borrowed g.L.Labeller.version_of g.L.Labeller.label l.labeller)) l.rest l.row)
      → AreSmall (key_of (label_where (labelling_borrowed g.L.Labeller.version_of g.L.Labeller.label l.labeller)) l.fields l.row);
}

abbrev pub decreases-loop-field : goal.decreases-loop-field
decreases-loop-field g l = length l.rest
