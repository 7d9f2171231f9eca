use Rattle.std.proofs.Common.{arith}
use Rattle.prefix_keys.proofs.Room.{group_room}
use Rattle.prefix_keys.proofs.text.colon.leading_group.Goals as goal

pub overflow_mul-group : goal.overflow_mul-group
overflow_mul-group c = let h = group_room c.loop-at.group c.loop-at.at c.loop-at.invariant.small (omega arith) in omega arith

pub overflow_add-group : goal.overflow_add-group
overflow_add-group c =
    let h = group_room c.loop-at.group c.loop-at.at c.loop-at.invariant.small (omega arith) in
    omega (arith, c.in-Some.ensures.limited)

pub returns-then-at-gt0-clause-limited : goal.returns-then-at-gt0-clause-limited
returns-then-at-gt0-clause-limited c = group_room c.loop-at.group c.loop-at.at c.loop-at.invariant.small (omega arith)
