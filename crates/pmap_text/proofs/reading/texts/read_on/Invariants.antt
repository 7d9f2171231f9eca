use Rattle.std.proofs.Common.{◌+◌, ◌≤◌, length}
use Rattle.pmap_text.specs.Reading.{lines_of}
use Rattle.pmap_text.proofs.Entering.{HasReadTo}
use Rattle.pmap_text.proofs.reading.texts.read_on.Given as goal

-- facts about the lines so far
abbrev pub invariant-loop-reading : goal.invariant-loop-reading
invariant-loop-reading l = record {
  fits : l.number + length l.rest ≤ l.before + length l.text;
  so_far : HasReadTo l.form l.initial.reading l.before l.text l.limit l.reading l.number (lines_of l.rest);
}

abbrev pub decreases-loop-reading : goal.decreases-loop-reading
decreases-loop-reading l = length l.rest
