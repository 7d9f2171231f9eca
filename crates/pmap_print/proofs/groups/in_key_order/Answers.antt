use Rattle.std.proofs.Common.{List, subst, sym}
use Rattle.std.specs.List.Sorted.{IsPermutation}
use Rattle.flow_uniq.specs.Groups.{GroupModel, is_before}
use Rattle.pmap_model.proofs.Sorting.{same-in_order}
use Rattle.pmap_print.proofs.groups.in_key_order.Goals as goal

pub returns-then-sorted-clause-same : goal.returns-then-sorted-clause-same
returns-then-sorted-clause-same c =
    let groups : List GroupModel = c.args.groups.now.groups in
    subst (λ (shown : List GroupModel). IsPermutation groups shown) (sym c.in_ok-sorted.ensures) (same-in_order is_before groups)
