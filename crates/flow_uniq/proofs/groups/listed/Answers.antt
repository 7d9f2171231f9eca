use Rattle.std.proofs.Common.{◌≡◌, None, map, option_map, sym, ap, ◌∙◌, arith}
use Rattle.std.specs.List.{slice_get}
use Rattle.flow_uniq.specs.Inner.{group_model}
use Rattle.flow_uniq.proofs.Listing.{none_past, listed-more}
use Rattle.flow_uniq.proofs.groups.listed.Goals as goal
use Rattle.flow_uniq.proofs.groups.listed.Goals.{in-Some+in_ok-push, in_default}

pub loop-index-preserved : goal.loop-index-preserved
loop-index-preserved c =
    elim c.match-group.branch [
      | in-Some+in_ok-push w ↦
          ap (λ v. map group_model v.items) w.listed-is
          ∙ listed-more c.loop-index.listed.items _ w.in-Some.group c.args.groups.now.groups c.loop-index.index c.loop-index.invariant
          w.in_ok-push.ensures.items (sym c.group.ensures ∙ ap (option_map group_model) w.in-Some.is)
      | in_default w ↦
          let at : slice_get c.args.groups.now.groups c.loop-index.index ≡ None = sym c.group.ensures ∙ ap (option_map group_model) w.in_default.is in
          absurd (omega (arith, none_past c.args.groups.now.groups c.loop-index.index at, c.group_count-index-end.ensures, c.loop-index-test.true))
    ]
