use Rattle.pmap_stretches.proofs.StartLists.{HasFirst}
use Rattle.pmap_stretches.proofs.stretches.starts.wide_starts.Given as goal

abbrev pub invariant-loop-number : goal.invariant-loop-number
invariant-loop-number l = HasFirst l.statements l.number l.starts.items
