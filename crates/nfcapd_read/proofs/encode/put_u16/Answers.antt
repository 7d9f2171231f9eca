use Rattle.std.proofs.Common.{arith, refl}
use Rattle.nfcapd_read.specs.Encode.{wire}
use Rattle.nfcapd_read.proofs.Puts.{number_put}
use Rattle.nfcapd_read.proofs.encode.put_u16.Goals as goal

pub returns-clause-put : goal.returns-clause-put
unfolding wire
returns-clause-put c = number_put c.args.at 2 c.args.number c.args.out.now c.write_u16.new.buf _ (omega arith) refl c.write_u16.ensures
