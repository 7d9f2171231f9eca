use Rattle.std.proofs.Common.{◌≡◌, ◌*◌, ◌≤◌, ◌++◌, take, drop}
use Rattle.ipfix_templates.specs.Field.{least_length}
use Rattle.ipfix_templates.specs.Runs.{runs_from, last_run_from}
use Rattle.ipfix_templates.proofs.fields.Fields.from_vec.Given as goal

abbrev pub invariant-loop-field : goal.invariant-loop-field
invariant-loop-field l = record {
  runs : l.runs.items ++ runs_from l.last_run (drop l.field-index l.field-items) ≡ runs_from 0 l.field-items;
  last : last_run_from l.last_run (drop l.field-index l.field-items) ≡ last_run_from 0 l.field-items;
  run_bound : l.last_run ≤ 65534 * l.field-index;
  least : l.least ≡ least_length (take l.field-index l.field-items);
  least_bound : l.least ≤ 65534 * l.field-index;
}
