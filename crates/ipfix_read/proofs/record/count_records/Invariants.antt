use Rattle.std.proofs.Common.{length}
use Rattle.ipfix_read.proofs.RecordValues.{HasRead}
use Rattle.ipfix_read.proofs.record.count_records.Given as goal

abbrev pub invariant-loop-rest : goal.invariant-loop-rest
invariant-loop-rest l = HasRead l.template l.base l.bytes l.count l.rest

abbrev pub decreases-loop-rest : goal.decreases-loop-rest
decreases-loop-rest l = length l.rest
