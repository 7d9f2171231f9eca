use Rattle.std.proofs.Common.{length, map}
use Rattle.pmap_cert.proofs.LineTexts.{IsReadTo}
use Rattle.pmap_cert.proofs.node_line.set_to_end.Given as goal

-- the whole set is the numbers so far and those that the rest begins with
abbrev pub invariant-loop-after : goal.invariant-loop-after
invariant-loop-after l = IsReadTo l.count l.low l.text (map (λ id. id.0) l.set.items) l.rest

abbrev pub decreases-loop-after : goal.decreases-loop-after
decreases-loop-after l = length l.rest
