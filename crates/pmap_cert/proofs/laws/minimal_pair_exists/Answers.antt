use Rattle.pmap_cert.proofs.Existence.{minimal_pair}
use Rattle.pmap_cert.proofs.laws.minimal_pair_exists.Goals as goal

pub returns : goal.returns
returns c = minimal_pair
