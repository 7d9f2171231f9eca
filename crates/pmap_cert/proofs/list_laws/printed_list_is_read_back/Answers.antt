use Rattle.pmap_cert.proofs.ReadAgain.{list-again, map-again}
use Rattle.pmap_cert.proofs.list_laws.printed_list_is_read_back.Goals as goal

pub returns-clause-list : goal.returns-clause-list
returns-clause-list c = list-again

pub returns-clause-map : goal.returns-clause-map
returns-clause-map c = map-again
