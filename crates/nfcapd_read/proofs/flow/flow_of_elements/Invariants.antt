use Rattle.std.proofs.Common.{◌≡◌}
use Rattle.nfcapd_read.specs.Flow.{no_elements, with_elements}
use Rattle.nfcapd_read.proofs.flow.flow_of_elements.Given as goal

abbrev pub invariant-loop-left : goal.invariant-loop-left
invariant-loop-left l = with_elements l.left l.flow l.rest ≡ with_elements l.count no_elements l.bytes

abbrev pub decreases-loop-left : goal.decreases-loop-left
decreases-loop-left l = l.left
