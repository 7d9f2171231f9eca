use Rattle.std.proofs.Common.{map}
use Rattle.pmap_stretches.specs.Starting.{start_of_narrow}
use Rattle.pmap_stretches.proofs.StartLists.{HasFirst}
use Rattle.pmap_stretches.proofs.stretches.starts.narrow_starts.Given as goal

abbrev pub invariant-loop-number : goal.invariant-loop-number
invariant-loop-number l = HasFirst l.statements l.number (map start_of_narrow l.starts.items)
