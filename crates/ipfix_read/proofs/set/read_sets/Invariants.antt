use Rattle.std.proofs.Common.{◌≡◌, ◌+◌, ◌-◌, ◌≤◌, length}
use Rattle.std.specs.Prelude.{fold}
use Rattle.ipfix_templates.specs.InForce.{template_at}
use Rattle.ipfix_read.specs.Set.{after_set, sets_reading}
use Rattle.ipfix_read.specs.Message.{message_size}
use Rattle.ipfix_templates.specs.Reading.{after_items}
use Rattle.ipfix_read.proofs.set.read_sets.Given as goal

abbrev pub invariant-loop-rest : goal.invariant-loop-rest
invariant-loop-rest l = record {
  within : message_size l.sets + length l.rest ≤ length l.bytes;
  read : sets_reading (template_at l.initial.table) l.domain l.base l.bytes
      ≡ after_items l.sets (sets_reading (template_at l.table) l.domain (l.base + (length l.bytes - length l.rest)) l.rest);
  table : template_at l.table ≡ fold (after_set l.domain) (template_at l.initial.table) l.sets;
}

abbrev pub decreases-loop-rest : goal.decreases-loop-rest
decreases-loop-rest l = length l.rest
