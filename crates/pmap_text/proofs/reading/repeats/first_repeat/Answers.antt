use Rattle.std.proofs.Common.{subst}
use Rattle.std.specs.Prelude.{unwrap_or}
use Rattle.pmap_model.specs.ListEntries.{HasDistinctBlocks}
use Rattle.pmap_model.proofs.Distinct.{distinct_sorted}
use Rattle.pmap_text.proofs.Filed.{distinct_keys}
use Rattle.pmap_text.proofs.reading.repeats.first_repeat.Goals as goal

pub returns-then-are_in_order : goal.returns-then-are_in_order
returns-then-are_in_order c = λ table. distinct_keys table c.args.entries.now (c.are_in_order.ensures.distinct c.if-are_in_order.true)

pub returns-then-are_in_order-2 : goal.returns-then-are_in_order-2
returns-then-are_in_order-2 c = λ table.
    distinct_keys table c.args.entries.now
    (distinct_sorted c.args.entries.now (unwrap_or c.in_ok-sorted.sorted c.args.entries.now) c.in_ok-sorted.ensures.same
    (subst HasDistinctBlocks c.sorted_or.ensures (c.are_in_order-2.ensures.distinct c.if-are_in_order-2.true)))
