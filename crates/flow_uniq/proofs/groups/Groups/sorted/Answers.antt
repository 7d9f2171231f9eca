use Rattle.std.proofs.Common.{Bool, ap, rules, ◌∙◌, map}
use borrow.Author.Tests.{tests}
use Rattle.std.proofs.lemmas.Cmp.{lists_total, nat_list_cmp_total, on_total}
use Rattle.std.proofs.lemmas.List.Sorted.{answers_always, ranks_by}
use Rattle.std.specs.Cmp.{IsStrictWeakOrder}
use Rattle.flow_uniq.specs.Inner.{Group, group_model}
use Rattle.flow_uniq.specs.Key.{part_numbers}
use Rattle.flow_uniq.specs.Groups.{is_before}
use Rattle.pmap_model.specs.Sorting.{in_order}
use Rattle.pmap_model.proofs.Sorting.{map-in_order, sorted_is}
use Rattle.flow_uniq.proofs.groups.Groups.sorted.Goals as goal

abbrev before : Group → Group → Bool
before g h = is_before (group_model g) (group_model h)

before-order : IsStrictWeakOrder before
before-order = ranks_by (lists_total (on_total part_numbers nat_list_cmp_total)) (λ (g : Group). (group_model g).key)

pub returns : goal.returns
returns c =
    let answers = answers_always _ _ _ (λ f a r f' k. search (rules, tests)) in
    ap (map group_model)
    (sorted_is before before-order c.in_ok-groups.groups.items _
    (c.in_ok-sort_by.ensures.sorted before before-order answers) (c.in_ok-sort_by.ensures.stable before before-order answers))
    ∙ map-in_order group_model is_before c.in_ok-groups.groups.items ∙ ap (in_order is_before) c.in_ok-groups.ensures
