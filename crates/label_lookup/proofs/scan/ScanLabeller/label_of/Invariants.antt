use Rattle.label_lookup.proofs.Scanned.{IsLeft}
use Rattle.label_lookup.proofs.scan.ScanLabeller.label_of.Given as goal

abbrev pub invariant-loop-left : goal.invariant-loop-left
invariant-loop-left l = IsLeft l.self-inside.map.now l.addr.value l.left

abbrev pub decreases-loop-left : goal.decreases-loop-left
decreases-loop-left l = l.left
