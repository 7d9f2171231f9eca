use Rattle.pmap_stretches.specs.Sweep.{AreOpen}
use Rattle.pmap_stretches.proofs.stretches.ascent.open_at_zero.Given as goal

abbrev pub invariant-loop-place : goal.invariant-loop-place
invariant-loop-place g l = AreOpen (g.M.Mappings.all l.mappings) l.starts l.place 0 l.opened
