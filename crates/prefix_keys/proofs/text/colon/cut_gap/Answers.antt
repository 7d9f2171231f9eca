use Rattle.std.proofs.Common.{ℕ, suc, ◌≡◌, ◌+◌, ◌-◌, ◌∙◌, Some, length, take, drop, get_or, ap, sym, true, arith}
use Rattle.std.proofs.lemmas.List.{length-drop, take_all}
use Rattle.std.proofs.lemmas.Grind.{common_steps}
use Rattle.prefix_keys.proofs.Gaps.{first_gap, no_gap, is_gap, is_gap-true}
use Rattle.prefix_keys.proofs.text.colon.cut_gap.Goals as goal

pub returns-then-text-at-eq58-2 : goal.returns-then-text-at-eq58-2
returns-then-text-at-eq58-2 c =
    let text = c.args.text.now in
    let at : ℕ = c.loop-at.at in
    let n : ℕ = at - 1 in
    let next : at ≡ suc n = omega arith in
    let one : get_or text n 0 ≡ 58 = grind (arith, common_steps) in
    let two : get_or text at 0 ≡ 58 = grind (arith, common_steps) in
    let here : is_gap text n ≡ true = is_gap-true text n at next one two in
    let following : suc (suc n) ≡ at + 1 = omega arith in
    let rest : take (length text - (at + 1)) (drop (at + 1) text) ≡ drop (at + 1) text =
    take_all (length text - (at + 1)) (drop (at + 1) text) (omega (arith, length-drop (at + 1) text)) in
    ap (λ t. Some (take n text, t)) (rest ∙ ap (λ k. drop k text) (sym following))
    ∙ sym (first_gap text n (λ k below. c.loop-at.invariant k (omega arith)) here)

pub returns : goal.returns
returns c = sym (no_gap c.args.text.now (λ k below. c.loop-at.invariant k (omega arith)))
