use Rattle.std.proofs.Common.{◌≡◌, ◌+◌, ◌≤◌, drop, length}
use Rattle.prefix_keys.specs.Print.{longest_run}
use Rattle.prefix_keys.proofs.Runs.{zeros_ahead}
use Rattle.prefix_keys.proofs.print.longest_zeros.Given as goal

-- the run found so far is the longest of the groups from i on
abbrev pub invariant-loop-i : goal.invariant-loop-i
invariant-loop-i l = record {
  zeros : l.zeros ≡ zeros_ahead (drop l.i l.groups);
  start : l.start ≡ l.i + (longest_run (drop l.i l.groups)).0;
  len : l.len ≡ (longest_run (drop l.i l.groups)).1;
  within : l.start + l.len ≤ length l.groups;
  ahead : l.i + l.zeros ≤ length l.groups;
}
