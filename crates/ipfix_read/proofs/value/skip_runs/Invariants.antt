use Rattle.std.proofs.Common.{◌≡◌, drop}
use Rattle.ipfix_read.specs.Value.{after_runs}
use Rattle.ipfix_read.proofs.value.skip_runs.Given as goal

abbrev pub invariant-loop-run : goal.invariant-loop-run
invariant-loop-run l = after_runs (drop l.run-index l.runs) l.last l.rest ≡ after_runs l.runs l.last l.bytes
