use Rattle.std.proofs.Common.{◌≡◌, ◌+◌, ◌-◌, ◌≤◌, length}
use Rattle.ipfix_templates.specs.Reading.{after_items, template_set_reading}
use Rattle.ipfix_templates.proofs.Records.{events_from}
use Rattle.ipfix_templates.proofs.set.read_template_set.Given as goal

abbrev pub invariant-loop-rest : goal.invariant-loop-rest
invariant-loop-rest l = record {
  fits : length l.events + length l.rest ≤ length l.bytes;
  read : template_set_reading l.kind l.bytes ≡ after_items l.events (events_from l.kind (length l.bytes - length l.rest) l.rest);
}

abbrev pub decreases-loop-rest : goal.decreases-loop-rest
decreases-loop-rest l = length l.rest
