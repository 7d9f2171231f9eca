use Rattle.std.proofs.Common.{◌∙◌, ap, sym, true, false, None, Some, eq-eqb, ◌==◌}
use Rattle.std.proofs.lemmas.Bool.{cond-true, cond-false, ne_eqb}
use Rattle.prefix_keys.specs.Text.{around_address, text_groups}
use Rattle.prefix_keys.proofs.Gaps.{address-around}
use Rattle.prefix_keys.proofs.GroupNumbers.{gap-no_back, gap-some, whole-none, whole-some}
use Rattle.prefix_keys.proofs.text.colon.read_colon.Goals as goal

pub returns-in_err-read_side-2 : goal.returns-in_err-read_side-2
returns-in_err-read_side-2 c =
    c.from_residual-in_err-read_side-2.ensures
    ∙ sym (address-around c.args.text.now c.in-Some.front.now c.in-Some.back.now c.in-Some.ensures
    ∙ gap-no_back (text_groups false c.in-Some.front.now) (text_groups true c.in-Some.back.now) c.in_err-read_side-2.ensures)

pub returns : goal.returns
returns c =
    c.join.ensures
    ∙ sym (address-around c.args.text.now c.in-Some.front.now c.in-Some.back.now c.in-Some.ensures
    ∙ gap-some (text_groups false c.in-Some.front.now) (text_groups true c.in-Some.back.now) _ _ _ _
    c.in_ok-read_side.ensures c.in_ok-read_side-2.ensures)

pub returns-in_err-groups : goal.returns-in_err-groups
returns-in_err-groups c =
    c.from_residual.ensures
    ∙ sym (ap (around_address c.args.text.now) (sym c.in_default.ensures) ∙ whole-none (text_groups true c.args.text.now) c.in_err-groups.ensures)

pub returns-then-groups-eq8 : goal.returns-then-groups-eq8
returns-then-groups-eq8 c =
    sym (ap (around_address c.args.text.now) (sym c.in_default.ensures)
    ∙ whole-some (text_groups true c.args.text.now) _ _ c.in_ok-groups.ensures
    ∙ cond-true (c.in_ok-groups.groups.count == 8) (Some c.in_ok-groups.groups.number) None (eq-eqb c.in_ok-groups.groups.count 8 c.if-groups-eq8.true))

pub returns-else-groups-eq8 : goal.returns-else-groups-eq8
returns-else-groups-eq8 c =
    sym (ap (around_address c.args.text.now) (sym c.in_default.ensures)
    ∙ whole-some (text_groups true c.args.text.now) _ _ c.in_ok-groups.ensures
    ∙ cond-false (c.in_ok-groups.groups.count == 8) (Some c.in_ok-groups.groups.number) None (ne_eqb c.in_ok-groups.groups.count 8 c.if-groups-eq8.false))
