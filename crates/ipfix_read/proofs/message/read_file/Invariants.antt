use Rattle.std.proofs.Common.{◌≡◌, ◌-◌, ◌≤◌, length}
use Rattle.ipfix_templates.specs.InForce.{template_at}
use Rattle.ipfix_templates.specs.Reading.{after_items}
use Rattle.ipfix_read.specs.Messages.{file_reading, messages_from}
use Rattle.ipfix_read.proofs.message.read_file.Given as goal

abbrev pub invariant-loop-rest : goal.invariant-loop-rest
invariant-loop-rest l = record {
  within : length l.rest ≤ length l.bytes;
  counted : l.count ≡ length l.messages;
  read : file_reading l.bytes ≡ after_items l.messages (messages_from (template_at l.table) l.count (length l.bytes - length l.rest) l.rest);
}

abbrev pub decreases-loop-rest : goal.decreases-loop-rest
decreases-loop-rest l = length l.rest
