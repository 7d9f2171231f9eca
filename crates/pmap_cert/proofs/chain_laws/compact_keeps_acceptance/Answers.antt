use Rattle.pmap_cert.proofs.Compacts.{compact-accepted}
use Rattle.pmap_cert.proofs.chain_laws.compact_keeps_acceptance.Goals as goal

pub returns : goal.returns
returns c = compact-accepted
