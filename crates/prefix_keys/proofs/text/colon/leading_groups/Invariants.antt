use Rattle.std.proofs.Common.{◌≤◌, ◌<◌, ◌*◌, ◌^◌, length}
use Rattle.prefix_keys.proofs.LeadingGroups.{HasRead}
use Rattle.prefix_keys.proofs.text.colon.leading_groups.Given as goal

-- the groups so far, each followed by a colon
abbrev pub invariant-loop-group : goal.invariant-loop-group
invariant-loop-group l = record {
  count_in_range : l.groups.0 ≤ 8;
  in_range : l.groups.1.0 < 2 ^ (16 * l.groups.0);
  read : HasRead l.text l.rest l.groups.0 l.groups.1.0;
}

abbrev pub decreases-loop-group : goal.decreases-loop-group
decreases-loop-group l = length l.rest
