use Rattle.std.proofs.Common.{◌≡◌, ◌≢◌, ◌<◌, ◌∙◌, ◌⊎◌, ℕ, List, Some, eq-eqb, eqb-true, get_or, inl, inr, subst, sym, arith}
use Rattle.std.proofs.lemmas.Bool.{false≢true, ltb-true}
use Rattle.std.proofs.lemmas.List.{take_rest}
use Rattle.pmap_cert.specs.Inner.{BeginsWithNumber, Finds}
use Rattle.pmap_cert.proofs.LineTexts.{after_byte-found, number-large, number-plain, number-zero}
use Rattle.pmap_cert.proofs.node_line.number_word.Goals as goal
use Rattle.pmap_cert.proofs.node_line.number_word.Goals.{else-at-eq0+else-at-gt1, else-at-eq0+then-at-gt1, then-at-eq0}

pub returns-then-number-bound : goal.returns-then-number-bound
returns-then-number-bound c =
    let digits : List ℕ = c.in_ok-digits.digits.now in
    number-large c.args.bound c.requires c.args.text.now digits (after_byte-found 32 c.args.text.now digits (sym c.in_ok-digits.ensures))
    c.loop-at.at c.loop-at.number c.loop-at.invariant.value c.loop-at.invariant.digits c.loop-at-test.true c.if-number-bound.true

pub returns-else-digits-eq48 : goal.returns-else-digits-eq48
returns-else-digits-eq48 c =
    let digits : List ℕ = c.in_ok-digits.digits.now in
    let plain : (0 < c.loop-at.at) × ((c.loop-at.at ≡ 1) ⊎ (get_or digits 0 0 ≢ 48)) =
    elim c.if-at-eq0.branch [
      | then-at-eq0 w ↦ absurd (false≢true (sym c.if-digits-eq48.false ∙ w.value-is ∙ eq-eqb _ _ w.if-at-eq0.true))
      | else-at-eq0+then-at-gt1 w ↦ (omega (arith, w.if-at-gt1.true), inr (λ e. false≢true (sym c.if-digits-eq48.false ∙ w.value-is ∙ eq-eqb _ _ e)))
      | else-at-eq0+else-at-gt1 w ↦ (omega (arith, w.if-at-eq0.false), inl (omega (arith, w.if-at-eq0.false, w.if-at-gt1.false)))
    ] in
    subst (λ (rest : List ℕ). Finds (BeginsWithNumber c.args.bound c.args.text.now) (Some (c.loop-at.number, rest))) (sym (take_rest digits c.loop-at.at))
    (number-plain c.args.bound c.requires c.args.text.now digits (after_byte-found 32 c.args.text.now digits (sym c.in_ok-digits.ensures))
    c.loop-at.at c.loop-at.number c.loop-at.invariant.value c.loop-at.invariant.digits c.loop-at-test.true (sym c.is_ascii_digit.ensures.value ∙ c.if-not-is_ascii_digit.true) (omega arith)
    plain.0 plain.1)

pub returns-then-digits-eq48 : goal.returns-then-digits-eq48
returns-then-digits-eq48 c =
    let digits : List ℕ = c.in_ok-digits.digits.now in
    number-zero c.args.bound c.requires c.args.text.now digits (after_byte-found 32 c.args.text.now digits (sym c.in_ok-digits.ensures))
    c.loop-at.at c.loop-at.number c.loop-at.invariant.value c.loop-at.invariant.digits c.loop-at-test.true (sym c.is_ascii_digit.ensures.value ∙ c.if-not-is_ascii_digit.true)
    (elim c.if-at-eq0.branch [
      | then-at-eq0 w ↦ inl w.if-at-eq0.true
      | else-at-eq0+then-at-gt1 w ↦ inr (w.if-at-gt1.true, eqb-true _ _ (sym w.value-is ∙ c.if-digits-eq48.true))
      | else-at-eq0+else-at-gt1 w ↦ absurd (omega (arith, ltb-true _ _ (sym w.value-is ∙ c.if-digits-eq48.true), w.if-at-gt1.false))
    ])
