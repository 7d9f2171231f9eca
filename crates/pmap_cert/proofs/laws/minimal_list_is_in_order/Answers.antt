use Rattle.pmap_cert.proofs.InOrder.{list-form}
use Rattle.pmap_cert.proofs.laws.minimal_list_is_in_order.Goals as goal

pub returns : goal.returns
returns c = list-form
