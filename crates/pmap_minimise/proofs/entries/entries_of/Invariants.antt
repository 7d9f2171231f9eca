use Rattle.pmap_minimise.proofs.Reading.{IsReading, lines_left}
use Rattle.pmap_minimise.proofs.entries.entries_of.Given as goal

abbrev pub invariant-loop-block : goal.invariant-loop-block
invariant-loop-block l = IsReading l.root l.fn.version l.at l.due.items l.entries

abbrev pub decreases-loop-block : goal.decreases-loop-block
decreases-loop-block l = lines_left l.at
