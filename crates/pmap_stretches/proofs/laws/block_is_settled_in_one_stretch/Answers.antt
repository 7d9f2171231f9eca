use Rattle.pmap_stretches.proofs.SeenBlocks.{settled_stretch}
use Rattle.pmap_stretches.proofs.laws.block_is_settled_in_one_stretch.Goals as goal

pub returns : goal.returns
returns c = settled_stretch
