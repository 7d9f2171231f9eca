use Rattle.pmap_cert.proofs.MapLimits.{labels-read}
use Rattle.pmap_cert.proofs.laws.map_text_has_its_labels.Goals as goal

pub returns : goal.returns
returns c = labels-read
