use Rattle.pmap_cert.proofs.Alike.{certificate-unique, list-unique}
use Rattle.pmap_cert.proofs.laws.minimal_pair_is_unique.Goals as goal

pub returns-clause-certificates : goal.returns-clause-certificates
returns-clause-certificates c = certificate-unique

pub returns-clause-lists : goal.returns-clause-lists
returns-clause-lists c = list-unique
