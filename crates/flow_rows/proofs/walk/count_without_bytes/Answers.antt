use Rattle.std.proofs.Common.{◌≡◌, ◌+◌, ◌*◌, ◌≤◌, ◌∙◌, ℕ, [], ◌∷◌, ◌++◌, List, ap, arith, drop, length, sym, take}
use Rattle.std.specs.Prelude.{count_by}
use Rattle.std.specs.List.{flat_map}
use Rattle.std.proofs.lemmas.List.{drop_more, take_more}
use Rattle.std.proofs.lemmas.List.Sums.{count_by-le-length, sum_by-cons}
use Rattle.ipfix_read.specs.declared.set.Set.{Set}
use Rattle.ipfix_read.specs.Message.{message_size, set_size}
use Rattle.flow_rows.specs.Counts.{has_no_bytes, records_in, rows_of_sets}
use Rattle.flow_rows.specs.Elements.{rows_of_record}
use Rattle.flow_rows.proofs.Adding.{more-rows}
use Rattle.flow_rows.proofs.Walking.{set_rows_within}
use Rattle.flow_rows.proofs.walk.count_without_bytes.Goals as goal
use Rattle.flow_rows.proofs.walk.count_without_bytes.Goals.{After-set-item}

-- there is room for the rows of the set, and for those of the sets after it
room : (c : After-set-item)
    → c.loop-set.count + length (flat_map rows_of_record (records_in c.set-item.result))
    + 2 * message_size (drop (c.loop-set.set-index + 1) c.as_slice-set-items.result.now) ≤ 131070
room c =
    let sets = c.as_slice-set-items.result.now in
    let k : ℕ = c.loop-set.set-index in
    let set = c.set-item.result in
    let left : drop k sets ≡ set ∷ drop (k + 1) sets =
    drop_more sets k set c.loop-set-test.true ∙ ap (λ (s : Set). s ∷ drop (k + 1) sets) (sym c.set-item.is) in
    omega (arith, c.loop-set.invariant.room, ap message_size left, sum_by-cons set_size set (drop (k + 1) sets), set_rows_within set)

pub count_in_set-count-requires : goal.count_in_set-count-requires
count_in_set-count-requires c = omega (arith, room c)

pub overflow_add-count : goal.overflow_add-count
overflow_add-count c =
    let rows = flat_map rows_of_record (records_in c.set-item.result) in
    omega (arith, room (goal.at.overflow_add-count c).After-set-item, c.count_in_set-count.ensures, count_by-le-length has_no_bytes rows)

pub loop-set-preserved : goal.loop-set-preserved
loop-set-preserved c =
    let sets = c.as_slice-set-items.result.now in
    let k : ℕ = c.loop-set.set-index in
    let set = c.set-item.result in
    let rows = flat_map rows_of_record (records_in set) in
    let before : take k sets ++ set ∷ [] ≡ take (k + 1) sets =
    ap (λ (s : Set). take k sets ++ s ∷ []) c.set-item.is ∙ sym (take_more sets k set c.loop-set-test.true) in
    record {
      counted =
          (λ i. c.loop-set.invariant.counted i + c.count_in_set-count.ensures i) ∙ sym (more-rows has_no_bytes (take k sets) set)
          ∙ ap (λ (ss : List Set). count_by has_no_bytes (rows_of_sets ss)) before;
      room =
          omega (arith, room (goal.at.loop-set-preserved c).After-set-item, c.count_in_set-count.ensures, count_by-le-length has_no_bytes rows);
    }
