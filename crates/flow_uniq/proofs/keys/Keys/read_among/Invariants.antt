use Rattle.std.proofs.Common.{map}
use Rattle.flow_uniq.proofs.Reading.{IsRead}
use Rattle.flow_uniq.proofs.keys.Keys.read_among.Given as goal

-- the fields that the items so far name
abbrev pub invariant-loop-name : goal.invariant-loop-name
invariant-loop-name l = IsRead l.known (map (λ x. x.now) l.yielded) l.repeated l.keys
