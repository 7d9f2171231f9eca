use Rattle.prefix_keys.proofs.ReadBack.{block_is_read_back}
use Rattle.prefix_keys.proofs.laws.block_is_read_back.Goals as goal

pub returns : goal.returns
returns c = block_is_read_back
