-- the start of the unit and the fields so far
use Rattle.std.proofs.Common.{◌≡◌, Some, take}
use Rattle.flow_uniq.specs.Key.{with_unit}
use Rattle.flow_uniq.proofs.keys.Keys.by_time.Given as goal

abbrev pub invariant-loop-field : goal.invariant-loop-field
invariant-loop-field l = Some l.keys ≡ with_unit l.fn.unit (take l.field-index l.fields)
