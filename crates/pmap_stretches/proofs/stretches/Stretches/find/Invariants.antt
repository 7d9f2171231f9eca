use Rattle.std.proofs.Common.{◌-◌, ◌≤◌}
use Rattle.pmap_stretches.specs.Stretches.{first_at, last_at}
use Rattle.pmap_stretches.proofs.stretches.Stretches.find.Given as goal

-- the stretch is one of those from `low` to `high`
abbrev pub invariant-loop-low : goal.invariant-loop-low
invariant-loop-low l = record {
  from : l.from ≤ l.low;
  order : l.low ≤ l.high;
  to : l.high ≤ l.to;
  above : first_at l.self l.low ≤ l.address;
  below : l.address ≤ last_at l.self l.high;
}

abbrev pub decreases-loop-low : goal.decreases-loop-low
decreases-loop-low l = l.high - l.low
