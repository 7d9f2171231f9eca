use Rattle.pmap_cert.proofs.EntryOrder.{in_order-kept, in_order-moves, in_order-one, in_order-order}
use Rattle.pmap_cert.proofs.list_laws.printed_order_is_one.Goals as goal

pub returns-clause-entries : goal.returns-clause-entries
returns-clause-entries c = in_order-moves

pub returns-clause-order : goal.returns-clause-order
returns-clause-order c = in_order-order

pub returns-clause-one : goal.returns-clause-one
returns-clause-one c = in_order-one

pub returns-clause-kept : goal.returns-clause-kept
returns-clause-kept c = in_order-kept
