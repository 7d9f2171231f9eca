use Rattle.std.proofs.Common.{ℕ, ◌∙◌, Option, ap, sym, option_map}
use Rattle.prefix_keys.specs.Inner.{more_groups}
use Rattle.prefix_keys.specs.declared.text.colon.Groups.{Groups}
use Rattle.prefix_keys.proofs.ColonPieces.{piece_groups-last, turn-none, turn-full, turn-next}
use Rattle.prefix_keys.proofs.text.colon.read_groups.Goals as goal

-- the count and the number of groups, if they exist
abbrev counted : Option Groups → Option (ℕ × ℕ)
counted result = option_map (λ groups. (groups.count, groups.number)) result

pub returns-then-piece-rest : goal.returns-then-piece-rest
returns-then-piece-rest c =
    c.push_last.ensures
    ∙ ap (more_groups c.loop-rest.groups.0 c.loop-rest.groups.1.0)
    (sym (piece_groups-last c.args.dotted c.loop-rest.rest.now c.cut.result.0.now c.cut.ensures.front c.if-piece-rest.true))
    ∙ c.loop-rest.invariant.same

pub returns-in_err-read_group : goal.returns-in_err-read_group
returns-in_err-read_group c =
    ap counted c.from_residual.ensures
    ∙ sym (turn-none c.args.dotted c.loop-rest.rest.now c.cut.result.0.now c.cut.result.1.now c.loop-rest.groups.0
    c.loop-rest.groups.1.0 c.cut.ensures.front c.cut.ensures.back c.if-piece-rest.false c.in_err-read_group.ensures.value)
    ∙ c.loop-rest.invariant.same

pub returns-in_err-groups : goal.returns-in_err-groups
returns-in_err-groups c =
    ap counted c.from_residual-in_err-groups.ensures
    ∙ sym (turn-full c.args.dotted c.loop-rest.rest.now c.cut.result.0.now c.cut.result.1.now c.loop-rest.groups.0
    c.loop-rest.groups.1.0 c.in_ok-read_group.field-0 c.cut.ensures.front c.cut.ensures.back c.if-piece-rest.false
    c.in_ok-read_group.ensures.value c.in_err-groups.ensures)
    ∙ c.loop-rest.invariant.same

pub loop-rest-preserved : goal.loop-rest-preserved
loop-rest-preserved c = record {
  count_in_range = c.in_ok-groups.groups.count_in_range;
  in_range = c.in_ok-groups.groups.in_range;
  same =
      sym (turn-next c.args.dotted c.loop-rest.rest.now c.cut.result.0.now c.cut.result.1.now c.loop-rest.groups.0
      c.loop-rest.groups.1.0 c.in_ok-read_group.field-0 c.in_ok-groups.groups.count c.in_ok-groups.groups.number
      c.cut.ensures.front c.cut.ensures.back c.if-piece-rest.false c.in_ok-read_group.ensures.value c.in_ok-groups.ensures)
      ∙ c.loop-rest.invariant.same;
}
