use Rattle.std.proofs.Common.{rules}
use Rattle.std.proofs.lemmas.List.Sorted.{IsNonDecreasingBy-from_sort_by}
use Rattle.pmap_model.specs.ListEntries.{rank_of}
use Rattle.pmap_model.proofs.order.in_order.Goals as goal

pub returns-clause-ascending : goal.returns-clause-ascending
returns-clause-ascending c =
    rw (c.in_ok-packed.ensures, c.as_slice.ensures.value) (IsNonDecreasingBy-from_sort_by (λ e. rank_of e.block) _ c.sort_unstable_by.ensures.sorted (λ a r q k. search rules))
