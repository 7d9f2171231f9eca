use Rattle.pmap_cert.proofs.InTableOrder.{minimal-read}
use Rattle.pmap_cert.proofs.laws.map_text_has_a_minimal_pair.Goals as goal

pub returns : goal.returns
returns c = minimal-read
