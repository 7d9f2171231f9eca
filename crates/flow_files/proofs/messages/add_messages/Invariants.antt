-- The messages that are read so far were added, and the next one begins at the offset. The File is still there if it was.
use Rattle.std.proofs.Common.{◌≡◌, ◌-◌}
use Rattle.std.specs.Prelude.{is_some}
use Rattle.flow_files.proofs.TakenLemmas.{AreReadInto}
use Rattle.flow_files.proofs.messages.add_messages.Given as goal

abbrev pub invariant-loop-progress : goal.invariant-loop-progress
invariant-loop-progress g l =
    AreReadInto g.R.Input.input (λ placed. g.T.TakesMessages.has_messages l.initial.taker placed l.taker) l.initial.flows l.progress l.flows
    × (l.offset ≡ l.progress.offset) × (is_some l.flows ≡ is_some l.initial.flows)

abbrev pub decreases-loop-progress : goal.decreases-loop-progress
decreases-loop-progress g l = 4294967295 - l.progress.count
