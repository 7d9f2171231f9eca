use Rattle.std.proofs.Common.{ℕ, ◌∙◌, ◌∷◌, ◌++◌, List, ap, sym, drop, arith}
use Rattle.prefix_keys.proofs.Places.{all_of_four, first_pair, four_hex, last_of_four, last_pair, last_three_of_four, last_two_of_four, one_hex, three_hex, two_hex}
use Rattle.prefix_keys.proofs.print.digits.write_group.Goals as goal

pub returns-then-group-lt16-clause-written : goal.returns-then-group-lt16-clause-written
returns-then-group-lt16-clause-written c =
    let following : List ℕ = drop c.args.end c.args.buf.now in
    last_of_four c.args.buf.now c.args.end c.requires.within _ _ _ _ c.requires.room
    ∙ (λ i. (last_pair c.args.group).1 i ∷ following)
    ∙ ap (λ (text : List ℕ). text ++ following) (sym (one_hex c.args.group c.if-group-lt16.true))

pub returns-then-group-lt256-clause-written : goal.returns-then-group-lt256-clause-written
returns-then-group-lt256-clause-written c =
    let following : List ℕ = drop c.args.end c.args.buf.now in
    let low = last_pair c.args.group in
    last_two_of_four c.args.buf.now c.args.end c.requires.within _ _ _ _ c.requires.room
    ∙ (λ i. low.0 i ∷ low.1 i ∷ following)
    ∙ ap (λ (text : List ℕ). text ++ following) (sym (two_hex c.args.group (omega (arith, c.if-group-lt16.false)) c.if-group-lt256.true))

pub returns-then-group-lt4096-clause-written : goal.returns-then-group-lt4096-clause-written
returns-then-group-lt4096-clause-written c =
    let following : List ℕ = drop c.args.end c.args.buf.now in
    let low = last_pair c.args.group in
    let high = first_pair c.args.group (omega arith) in
    last_three_of_four c.args.buf.now c.args.end c.requires.within _ _ _ _ c.requires.room
    ∙ (λ i. high.1 i ∷ low.0 i ∷ low.1 i ∷ following)
    ∙ ap (λ (text : List ℕ). text ++ following) (sym (three_hex c.args.group (omega (arith, c.if-group-lt256.false)) c.if-group-lt4096.true))

pub returns-else-group-lt4096-clause-written : goal.returns-else-group-lt4096-clause-written
returns-else-group-lt4096-clause-written c =
    let following : List ℕ = drop c.args.end c.args.buf.now in
    let low = last_pair c.args.group in
    let high = first_pair c.args.group (omega arith) in
    all_of_four c.args.buf.now c.args.end c.requires.within _ _ _ _ c.requires.room
    ∙ (λ i. high.0 i ∷ high.1 i ∷ low.0 i ∷ low.1 i ∷ following)
    ∙ ap (λ (text : List ℕ). text ++ following) (sym (four_hex c.args.group (omega (arith, c.if-group-lt4096.false)) (omega arith)))
