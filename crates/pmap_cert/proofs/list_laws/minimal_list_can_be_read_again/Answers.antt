use Rattle.pmap_cert.proofs.MinimalLists.{can-read_again, well-formed}
use Rattle.pmap_cert.proofs.list_laws.minimal_list_can_be_read_again.Goals as goal

pub returns-clause-form : goal.returns-clause-form
returns-clause-form c = well-formed

pub returns-clause-again : goal.returns-clause-again
returns-clause-again c = can-read_again
