use Rattle.std.proofs.Common.{◌-◌}
use Rattle.pmap_stretches.specs.declared.stretches.window.Window.{Window}
use Rattle.pmap_minimise.specs.Spines.{IsCounted, IsSpineTo}
use Rattle.pmap_minimise.proofs.spines.stepwise_end.Given as goal

abbrev pub invariant-loop-chosen : goal.invariant-loop-chosen
invariant-loop-chosen l = record {
  counted : IsCounted l.fn.stretches l.end;
  all : (last : Window) → IsSpineTo l.fn.stretches l.fn.side.0 l.end last → IsSpineTo l.fn.stretches l.fn.side.0 l.fn.window last;
}

-- each step leads to a block of fewer addresses
abbrev pub decreases-loop-chosen : goal.decreases-loop-chosen
decreases-loop-chosen l = l.end.last - l.end.first
