use Rattle.std.proofs.Common.{arith}
use Rattle.flow_io.proofs.Moving.{take_filled}
use Rattle.flow_io.proofs.buffered.Buffered.hold.Goals as goal

pub returns-clause-held : goal.returns-clause-held
returns-clause-held g c =
    rw c.copy_from_slice.ensures.after (take_filled c.args.self.now.len _ c.args.count c.args.self.now.buffer.now c.args.bytes.now (omega (arith, c.requires.room)) c.requires.count)
