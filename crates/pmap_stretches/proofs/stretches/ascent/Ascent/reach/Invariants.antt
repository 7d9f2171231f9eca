use Rattle.std.proofs.Common.{◌≤◌, length}
use Rattle.pmap_stretches.specs.Sweep.{Continues}
use Rattle.pmap_stretches.proofs.stretches.ascent.Ascent.reach.Given as goal

abbrev pub invariant-loop-self : goal.invariant-loop-self
invariant-loop-self g l = record {
  continues : Continues (g.M.Mappings.all l.mappings) l.initial.self l.self;
  to : l.self.growing.last ≤ l.last;
}

abbrev pub decreases-loop-self : goal.decreases-loop-self
decreases-loop-self g l = length l.self.opened
