use Rattle.prefix_keys.proofs.ReadBack.{address_is_read_back}
use Rattle.prefix_keys.proofs.laws.address_is_read_back.Goals as goal

pub returns : goal.returns
returns c = address_is_read_back
