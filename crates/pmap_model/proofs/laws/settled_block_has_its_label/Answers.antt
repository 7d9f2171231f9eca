use Rattle.pmap_model.proofs.Settled.{map_label-settled}
use Rattle.pmap_model.proofs.laws.settled_block_has_its_label.Goals as goal

pub returns : goal.returns
returns c = map_label-settled
