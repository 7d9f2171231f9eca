use Rattle.std.proofs.Common.{◌≡◌, ◌-◌, length}
use Rattle.ipfix_templates.specs.Reading.{fields_at}
use Rattle.ipfix_templates.proofs.Records.{with_front}
use Rattle.ipfix_templates.proofs.record.read_fields.Given as goal

abbrev pub invariant-loop : goal.invariant-loop
invariant-loop l = record {
  read : with_front l.fields.items (fields_at (l.count - l.counter) l.rest) ≡ fields_at l.count l.bytes;
  counted : length l.fields.items ≡ l.counter;
}
