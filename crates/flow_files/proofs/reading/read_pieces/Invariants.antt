-- The reader has returned the text since the loop began, and has not failed.
use Rattle.std.proofs.Common.{◌≡◌, ◌-◌, ◌^◌, ◌<◌, false, length, vec_len}
use Rattle.flow_io.specs.Devices.{Gives}
use Rattle.flow_files.proofs.reading.read_pieces.Given as goal

abbrev pub invariant-loop-count : goal.invariant-loop-count
invariant-loop-count g l = record {
  room : 0 < vec_len l.chunk;
  fits : length l.text < 2 ^ 64;
  given : Gives (g.R.Input.input l.initial.reader) (g.R.Input.input l.reader) l.text;
  works : (g.R.Input.input l.reader).failed ≡ false;
}

abbrev pub decreases-loop-count : goal.decreases-loop-count
decreases-loop-count g l = 2 ^ 64 - length l.text
