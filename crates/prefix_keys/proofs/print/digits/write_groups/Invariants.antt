use Rattle.std.proofs.Common.{◌≡◌, ◌+◌, ◌*◌, ◌≤◌, ◌++◌, drop, length}
use Rattle.prefix_keys.proofs.print.digits.write_groups.Given as goal
use Rattle.prefix_keys.specs.Print.{address_groups_text}

-- the groups from i on are written
abbrev pub invariant-loop-i : goal.invariant-loop-i
invariant-loop-i l = record {
  written : drop l.at l.buf ≡ address_groups_text (drop l.i l.groups) ++ drop l.end l.fn.buf;
  start : l.at ≤ l.end;
  room : l.end + 5 * l.i ≤ l.at + 5 * length l.groups;
}
