use Rattle.flowlabel.proofs.commands.shrink.printout_of.Goals as goal

pub returns-in_ok-compact_certificate-in-Certificate : goal.returns-in_ok-compact_certificate-in-Certificate
returns-in_ok-compact_certificate-in-Certificate c =
    let (l, k, pair, form, opening, compacted) = c.in_ok-compact_certificate-in-Certificate.ensures in
    rw c.in-Certificate.is ((k, opening), λ text is. (l, k, pair, is k opening))
