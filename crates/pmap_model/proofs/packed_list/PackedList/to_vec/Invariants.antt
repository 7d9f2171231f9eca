use Rattle.std.proofs.Common.{◌≡◌, take}
use Rattle.pmap_model.proofs.packed_list.PackedList.to_vec.Given as goal

abbrev pub invariant-loop-index : goal.invariant-loop-index
invariant-loop-index g l = l.all.items ≡ take l.index l.self
