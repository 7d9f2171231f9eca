use Rattle.std.proofs.Common.{◌≡◌, ◌-◌, ◌≤◌, length}
use Rattle.pmap_stretches.specs.Sweep.{BeginAfter, IsAscent}
use Rattle.pmap_stretches.proofs.stretches.ascent.Ascent.open_all.Given as goal

abbrev pub invariant-loop-self : goal.invariant-loop-self
invariant-loop-self g l = record {
  ascent : IsAscent (g.M.Mappings.all l.mappings) l.self;
  version : l.self.growing.stretches.version ≡ l.initial.self.growing.stretches.version;
  joined : l.self.growing.joined ≡ l.initial.self.growing.joined;
  default : l.self.default ≡ l.initial.self.default;
  later : BeginAfter (g.M.Mappings.all l.mappings) l.self.starts l.self.next l.self.growing.last;
  to : l.self.growing.last ≤ l.end;
}

abbrev pub decreases-loop-self : goal.decreases-loop-self
decreases-loop-self g l = length (g.M.Mappings.all l.mappings) - l.self.next
