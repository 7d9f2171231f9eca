use Rattle.std.proofs.Common.{◌≡◌, ◌-◌, ◌≤◌, length, take}
use Rattle.flow_io.specs.Devices.{Gives}
use Rattle.flow_io.proofs.whole.fill.Given as goal

abbrev pub invariant-loop-filled : goal.invariant-loop-filled
invariant-loop-filled g l = record {
  within : l.filled ≤ length l.bytes;
  given : Gives (g.R.Input.input l.initial.reader) (g.R.Input.input l.reader) (take l.filled l.bytes);
  same : (g.R.Input.input l.reader).failed ≡ (g.R.Input.input l.initial.reader).failed;
}

abbrev pub decreases-loop-filled : goal.decreases-loop-filled
decreases-loop-filled g l = length l.bytes - l.filled
