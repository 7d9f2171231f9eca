use Rattle.std.proofs.Common.{◌≡◌, ◌∙◌, ◌&&◌, ◌==◌, ◌++◌, ◌∷◌, [], ℕ, true, Option, Some, None, Ok, Err, List, refl, ap, arith, get_or, length, map, rules, sym, tests}
use Rattle.std.specs.Prelude.{is_none, ok_or}
use Rattle.std.specs.List.{slice_split}
use Rattle.std.proofs.lemmas.Iterator.Consumers.{YieldsList-end, YieldsList-turn}
use Rattle.std.proofs.lemmas.Iterator.Splits.{YieldsList-from_slice_split}
use Rattle.std.proofs.lemmas.List.{get_or-map, length-map, map_push}
use Rattle.flow_filter.specs.Condition.{RowTest, is_malformed, item_test}
use Rattle.flow_filter.specs.Filters.{by_range, tested_number}
use Rattle.flow_filter.specs.Options.{is_list, kind_of}
use Rattle.prefix_keys.specs.Text.{all_some}
use Rattle.flow_filter.proofs.Reading.{all_some-none, all_some-push, label_sound, ranges_meet}
use Rattle.flow_filter.proofs.items.read_ranges.Goals as goal

pub returns-then-is_on_labels-clause-ok : goal.returns-then-is_on_labels-clause-ok
returns-then-is_on_labels-clause-ok c = record {
  sound = label_sound c.args.option c.args.text.now (sym c.is_on_labels.ensures ∙ c.if-is_on_labels.true);
  ascending = λ no. absurd (cc);
  numbers = λ no. absurd (cc);
}

-- an item that doesn't exist has this fault
err_parts : {X E : Type 0} (x : Option X) (kind fault : E) → Err fault ≡ ok_or x kind → (x ≡ None) × (fault ≡ kind)
err_parts None kind fault is = (refl, cc)
err_parts (Some x) kind fault is = absurd (cc)

-- an item that exists
ok_part : {X E : Type 0} (x : Option X) (y : X) (kind : E) → Ok y ≡ ok_or x kind → x ≡ Some y
ok_part None y kind is = absurd (cc)
ok_part (Some x) y kind is = cc

pub returns-in_err-range-clause-err : goal.returns-in_err-range-clause-err
returns-in_err-range-clause-err c =
    let turn =
    YieldsList-turn
    (YieldsList-from_slice_split _ (λ b. is_list c.args.option && b == 44) c.args.text.now (cc) (cc)
    (ap (λ s. s.pred) c.into_iter-item-iterator.ensures.into_iter_gives ∙ c.split-item-items.ensures.closure) (λ x b q k. search (rules, tests)))
    c.loop-item.yielded _ c.loop-item.yielded_by _ _ c.in-Some.item c.in-Some.is c.next.ensures.steps in
    let items = slice_split (λ b. is_list c.args.option && b == 44) c.args.text.now in
    let fault = err_parts (item_test c.args.option c.in-Some.item.now) (kind_of c.args.option) c.in_err-range.field-0.0 c.in_err-range.ensures in
    let missing : get_or (map (item_test c.args.option) items) (length c.loop-item.yielded) None ≡ None =
    get_or-map (item_test c.args.option) items (length c.loop-item.yielded) c.in-Some.item.now None turn.0
    ∙ ap (item_test c.args.option) (sym turn.1) ∙ fault.0 in
    let malformed : is_malformed (c.args.option, c.args.text.now) ≡ true =
    ap is_none
    (all_some-none (map (item_test c.args.option) items) (length c.loop-item.yielded) None
    (omega (arith, turn.0, length-map {B = Option RowTest} items)) missing) in
    search rules

pub loop-item-preserved : goal.loop-item-preserved
loop-item-preserved c =
    let o = c.args.option in
    let read : item_test o c.in-Some.item.now ≡ Some (by_range o c.in_ok-range.range) =
    ok_part (item_test o c.in-Some.item.now) (by_range o c.in_ok-range.range) (kind_of o) c.in_ok-range.ensures in
    let pushed : c.push.new.self.items ≡ c.loop-item.ranges.items ++ c.in_ok-range.range ∷ [] = search rules in
    let items : List (List ℕ) = map (λ x. x.now) c.loop-item.yielded in
    rw (
      map_push (λ x. x.now) c.loop-item.yielded c.in-Some.item,
      map_push (item_test o) items c.in-Some.item.now,
      read,
      pushed,
      map_push (by_range o) c.loop-item.ranges.items c.in_ok-range.range,
    )
    (all_some-push (map (item_test o) items) (map (by_range o) c.loop-item.ranges.items) (by_range o c.in_ok-range.range) c.loop-item.invariant)

pub returns-clause-ok : goal.returns-clause-ok
returns-clause-ok c =
    let o = c.args.option in
    let all =
    YieldsList-end
    (YieldsList-from_slice_split _ (λ b. is_list o && b == 44) c.args.text.now (cc) (cc)
    (ap (λ s. s.pred) c.into_iter-item-iterator.ensures.into_iter_gives ∙ c.split-item-items.ensures.closure) (λ x b q k. search (rules, tests)))
    c.loop-item.yielded _ c.loop-item.yielded_by _ _ c.in-None.is c.next.ensures.steps in
    let tests = ap (λ (items : List (List ℕ)). all_some (map (item_test o) items)) (sym all.0) ∙ c.loop-item.invariant in
    record {
      sound = ap is_none tests;
      ascending = λ _. c.sort_ranges.ensures.ascending;
      numbers = λ _ label row. ranges_meet o c.args.text.now label row c.loop-item.ranges.items tests ∙ (λ i. sym c.sort_ranges.ensures.same i (tested_number o row));
    }
