use Rattle.std.proofs.Common.{◌≡◌, ◌≤◌, ◌<◌, ◌*◌, ◌^◌, length}
use Rattle.prefix_keys.specs.Inner.{more_groups, piece_groups}
use Rattle.prefix_keys.proofs.text.colon.read_groups.Given as goal

-- the groups so far and those of the rest are those of the text
abbrev pub invariant-loop-rest : goal.invariant-loop-rest
invariant-loop-rest l = record {
  count_in_range : l.groups.0 ≤ 8;
  in_range : l.groups.1.0 < 2 ^ (16 * l.groups.0);
  same : more_groups l.groups.0 l.groups.1.0 (piece_groups l.dotted l.rest) ≡ more_groups 0 0 (piece_groups l.dotted l.text);
}

abbrev pub decreases-loop-rest : goal.decreases-loop-rest
decreases-loop-rest l = length l.rest
