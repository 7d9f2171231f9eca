use Rattle.std.proofs.Common.{arith}
use Rattle.prefix_keys.proofs.Room.{group_room}
use Rattle.prefix_keys.proofs.text.colon.read_group.Goals as goal

pub overflow_mul-group : goal.overflow_mul-group
overflow_mul-group c = let h = group_room c.loop-b.group c.loop-b.b-index c.loop-b.invariant.small (omega arith) in omega arith

pub overflow_add-group : goal.overflow_add-group
overflow_add-group c =
    let h = group_room c.loop-b.group c.loop-b.b-index c.loop-b.invariant.small (omega arith) in
    omega (arith, c.in_ok-group.ensures.limited)

pub returns-clause-limited : goal.returns-clause-limited
returns-clause-limited c = group_room c.loop-b.group c.loop-b.b-index c.loop-b.invariant.small (omega arith)
