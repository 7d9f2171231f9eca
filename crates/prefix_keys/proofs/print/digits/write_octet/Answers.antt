use Rattle.std.proofs.Common.{ℕ, ◌∙◌, ◌∷◌, ◌++◌, List, ap, sym, drop, arith}
use Rattle.prefix_keys.proofs.Places.{last_of_four, last_three_of_four, last_two_of_four, octet_digits, one_digit, three_digits, two_digits}
use Rattle.prefix_keys.proofs.print.digits.write_octet.Goals as goal

pub returns-then-octet-lt10-clause-written : goal.returns-then-octet-lt10-clause-written
returns-then-octet-lt10-clause-written c =
    let following : List ℕ = drop c.args.end c.args.buf.now in
    let known = octet_digits c.args.octet c.requires.small in
    last_of_four c.args.buf.now c.args.end c.requires.within _ _ _ _ c.requires.room
    ∙ (λ i. known.2 i ∷ following)
    ∙ ap (λ (text : List ℕ). text ++ following) (sym (one_digit c.args.octet c.if-octet-lt10.true))

pub returns-then-octet-lt100-clause-written : goal.returns-then-octet-lt100-clause-written
returns-then-octet-lt100-clause-written c =
    let following : List ℕ = drop c.args.end c.args.buf.now in
    let known = octet_digits c.args.octet c.requires.small in
    last_two_of_four c.args.buf.now c.args.end c.requires.within _ _ _ _ c.requires.room
    ∙ (λ i. known.1 i ∷ known.2 i ∷ following)
    ∙ ap (λ (text : List ℕ). text ++ following)
    (sym (two_digits c.args.octet (omega (arith, c.if-octet-lt10.false)) c.if-octet-lt100.true))

pub returns-else-octet-lt100-clause-written : goal.returns-else-octet-lt100-clause-written
returns-else-octet-lt100-clause-written c =
    let following : List ℕ = drop c.args.end c.args.buf.now in
    let known = octet_digits c.args.octet c.requires.small in
    last_three_of_four c.args.buf.now c.args.end c.requires.within _ _ _ _ c.requires.room
    ∙ (λ i. known.0 i ∷ known.1 i ∷ known.2 i ∷ following)
    ∙ ap (λ (text : List ℕ). text ++ following)
    (sym (three_digits c.args.octet (omega (arith, c.if-octet-lt100.false)) (omega (arith, c.requires.small))))
