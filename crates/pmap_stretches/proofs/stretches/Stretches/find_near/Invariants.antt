use Rattle.std.proofs.Common.{◌-◌, ◌≤◌}
use Rattle.pmap_stretches.specs.Stretches.{first_at}
use Rattle.pmap_stretches.proofs.stretches.Stretches.find_near.Given as goal

-- the address is not before the stretch `low`
abbrev pub invariant-loop-low : goal.invariant-loop-low
invariant-loop-low l = record {
  start : l.start ≤ l.low;
  order : l.low ≤ l.high;
  within : l.high ≤ l.end;
  from : first_at l.self l.low ≤ l.address;
}

abbrev pub decreases-loop-low : goal.decreases-loop-low
decreases-loop-low l = l.end - l.high
