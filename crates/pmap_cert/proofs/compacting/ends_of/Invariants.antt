use Rattle.std.proofs.Common.{◌≤◌, length}
use Rattle.pmap_cert.specs.Inner.{AreEndsFrom}
use Rattle.pmap_cert.proofs.compacting.ends_of.Given as goal

abbrev pub invariant-loop-number : goal.invariant-loop-number
invariant-loop-number l = record {
  within : l.number ≤ length l.nodes;
  ends : AreEndsFrom l.nodes l.ends.items l.number;
}

abbrev pub decreases-loop-number : goal.decreases-loop-number
decreases-loop-number l = l.number
