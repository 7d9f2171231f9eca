use Rattle.std.proofs.Common.{ℕ, ◌≡◌, Some, List, take, sym, subst, arith}
use Rattle.std.proofs.lemmas.List.{take_rest, take-append-drop}
use Rattle.prefix_keys.specs.Inner.{BeginsWith}
use Rattle.prefix_keys.specs.Text.{decimal_number, is_digit}
use Rattle.pmap_text.proofs.LeadingWords.{number-some}
use Rattle.pmap_text.proofs.reading.leading.leading_number.Goals as goal

pub returns-then-number-limit-clause-number : goal.returns-then-number-limit-clause-number
returns-then-number-limit-clause-number c =
    let text : List ℕ = c.args.text.now in
    let at : ℕ = c.loop-at.at in
    let number : ℕ = c.loop-at.number in
    let digits = c.loop-at.invariant in
    let reads : decimal_number 3 c.args.limit (take at text) ≡ Some number =
    number-some c.args.limit text at number digits.value digits.digits c.if-at-gt0.true digits.short (omega arith) c.if-number-limit.true in
    subst (λ (rest : List ℕ). BeginsWith is_digit (decimal_number 3 c.args.limit) text rest number) (sym (take_rest text at))
    (record { front = take at text; whole = sym (take-append-drop at text); bytes = digits.digits; reads = reads })
