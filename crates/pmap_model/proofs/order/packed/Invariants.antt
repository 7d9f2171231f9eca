use Rattle.std.proofs.Common.{◌≡◌, take}
use Rattle.pmap_model.proofs.order.packed.Given as goal

abbrev pub invariant-loop-entry : goal.invariant-loop-entry
invariant-loop-entry l = l.packed ≡ take l.entry-index l.entries
