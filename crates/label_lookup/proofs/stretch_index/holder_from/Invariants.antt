use Rattle.std.proofs.Common.{◌-◌, ◌<◌, ◌≤◌, length}
use Rattle.pmap_stretches.specs.Stretches.{first_at}
use Rattle.label_lookup.proofs.stretch_index.holder_from.Given as goal

abbrev pub invariant-loop-index : goal.invariant-loop-index
invariant-loop-index l = record {
  below : l.index < length l.stretches.firsts;
  above : first_at l.stretches l.index ≤ l.address;
}

abbrev pub decreases-loop-index : goal.decreases-loop-index
decreases-loop-index l = length l.stretches.firsts - l.index
