use Rattle.std.proofs.Common.{◌+◌, length}
use Rattle.pmap_minimise.specs.Numbers.{numbers_of}
use Rattle.pmap_minimise.proofs.Merged.{IsMerging}
use Rattle.pmap_minimise.proofs.sets.common.Given as goal

abbrev pub invariant-loop-x : goal.invariant-loop-x
invariant-loop-x l = IsMerging (numbers_of l.low) (numbers_of l.high) (numbers_of l.set.items) l.lower l.higher

abbrev pub decreases-loop-x : goal.decreases-loop-x
decreases-loop-x l = length l.lower + length l.higher
