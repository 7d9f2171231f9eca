use Rattle.cert_check.proofs.Numbered.{numbers-more}
use Rattle.cert_check.proofs.labels.numbers_in.Goals as goal

pub loop-number-preserved : goal.loop-number-preserved
loop-number-preserved c =
    numbers-more c.args.from.now c.args.to.now c.loop-number.number c.in-Some.text.now c.loop-number.numbers.items c.push.new.self.items c.id_of.result
    c.loop-number.invariant c.in-Some.ensures.value c.id_of.ensures.value c.in_ok-push.ensures.items
