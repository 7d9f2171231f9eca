use Rattle.std.proofs.Common.{◌≡◌, map, take}
use Rattle.flow_uniq.specs.Inner.{group_model}
use Rattle.flow_uniq.proofs.groups.listed.Given as goal

-- the groups so far
abbrev pub invariant-loop-index : goal.invariant-loop-index
invariant-loop-index l = map group_model l.listed.items ≡ take l.index l.groups.groups
