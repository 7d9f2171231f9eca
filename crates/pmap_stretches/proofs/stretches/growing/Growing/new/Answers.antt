use Rattle.pmap_stretches.proofs.Stretched.{stretches_from}
use Rattle.pmap_stretches.proofs.stretches.growing.Growing.new.Goals as goal

pub returns-clause-are : goal.returns-clause-are
returns-clause-are c = λ ss default label wins.
    stretches_from ss default _ c.args.label c.in_ok-whole.ensures.every c.in_ok-whole.ensures.firsts c.in_ok-whole.ensures.labels
    (λ a from to. record { won = c.args.won; wins = wins a from to; label_is = label; top_is = c.top_of.ensures })
