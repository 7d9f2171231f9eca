-- The writer took the bytes that are gone from the rest, and none were lost before.
use Rattle.std.proofs.Common.{sym}
use Rattle.flow_io.proofs.Outlets.{moves_over, has_taken_more}
use Rattle.flow_io.proofs.given.give.Goals as goal

pub loop-writer-preserved-in-Ok : goal.loop-writer-preserved-in-Ok
loop-writer-preserved-in-Ok g c =
    let (whole, began, none) = c.loop-writer.invariant in
    let nothing = none (sym c.if-not-failed.ensures) in (
      rw c.note.ensures (moves_over _ _ _ c.loop-writer.rest.now c.in-Ok.count whole nothing),
      λ first h. rw c.note.ensures (has_taken_more (began first h) c.in-Ok.ensures.taken c.in-Ok.ensures.last c.in-Ok.ensures.unflushed),
      λ _. nothing,
    )
