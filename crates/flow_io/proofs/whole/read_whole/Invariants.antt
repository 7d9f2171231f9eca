-- The reader has returned the text since the loop began, and has not failed.
use Rattle.std.proofs.Common.{◌≡◌, ◌-◌, ◌^◌, ◌<◌, false, vec_len}
use Rattle.flow_io.specs.Devices.{Gives}
use Rattle.flow_io.proofs.whole.read_whole.Given as goal

abbrev pub invariant-loop-count : goal.invariant-loop-count
invariant-loop-count g l =
    (0 < vec_len l.chunk) × Gives (g.R.Input.input l.initial.reader) (g.R.Input.input l.reader) l.text.items × ((g.R.Input.input l.reader).failed ≡ false)

abbrev pub decreases-loop-count : goal.decreases-loop-count
decreases-loop-count g l = 2 ^ 64 - vec_len l.text
