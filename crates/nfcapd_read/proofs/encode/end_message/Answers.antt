use Rattle.std.proofs.Common.{refl, arith, length-take, rules}
use Rattle.nfcapd_read.proofs.Puts.{message_ended}
use Rattle.nfcapd_read.proofs.encode.end_message.Goals as goal

pub returns-clause-put : goal.returns-clause-put
returns-clause-put c =
    message_ended c.args.out.now _ c.put_u16-at.new.out c.put_u16-at-2.new.out c.put_head.new.out c.args.six.now c.copy_from_slice.new.self c.args.at
    c.put_u16-at.result c.put_u16-at-2.result (omega arith) (omega arith) (omega (arith, length-take 20 c.args.out.now)) c.put_head.ensures refl
    c.put_u16-at.ensures.put c.put_u16-at-2.ensures.put (omega arith) (search rules) _ refl
