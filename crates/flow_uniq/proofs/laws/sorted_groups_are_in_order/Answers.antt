use Rattle.flow_uniq.specs.Groups.{is_before}
use Rattle.pmap_model.proofs.Sorting.{in_order-sorted, same-in_order}
use Rattle.flow_uniq.proofs.MergedParts.{before-order}
use Rattle.flow_uniq.proofs.laws.sorted_groups_are_in_order.Goals as goal

pub returns-clause-same : goal.returns-clause-same
returns-clause-same c = same-in_order is_before

pub returns-clause-ascends : goal.returns-clause-ascends
returns-clause-ascends c = in_order-sorted is_before before-order
