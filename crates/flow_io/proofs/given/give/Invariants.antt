-- The bytes taken and lost, and the rest, are those before the loop and all bytes that were given.
use Rattle.std.proofs.Common.{◌≡◌, ◌++◌, ◌+◌, [], false, length}
use Rattle.std.specs.Prelude.{if◌then◌else◌}
use Rattle.flow_io.specs.Devices.{OutputView}
use Rattle.flow_io.specs.Sinks.{HasTaken}
use Rattle.flow_io.proofs.given.give.Given as goal

abbrev pub invariant-loop-writer : goal.invariant-loop-writer
invariant-loop-writer g l =
    (l.given.taken.bytes ++ (l.given.lost.bytes ++ l.rest) ≡ (l.initial.given.taken.bytes ++ l.initial.given.lost.bytes) ++ l.initial.rest)
    × ((first : OutputView) → HasTaken first (g.W.Output.output l.initial.writer) l.initial.given.taken.bytes
    → HasTaken first (g.W.Output.output l.writer) l.given.taken.bytes)
    × ((g.W.Output.output l.writer).failed ≡ false → l.given.lost.bytes ≡ [])

abbrev pub decreases-loop-writer : goal.decreases-loop-writer
decreases-loop-writer g l = length l.rest + (if (g.W.Output.output l.writer).failed then 0 else 1)
