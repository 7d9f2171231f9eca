use Rattle.label_lookup.proofs.Tops.{later_stretch}
use Rattle.label_lookup.proofs.stretch_index.holder_from.Goals as goal

pub loop-index-preserved : goal.loop-index-preserved
loop-index-preserved c =
    let last = c.last.ensures in
    let more = later_stretch c.args.stretches.now c.laws.ensures.every c.loop-index.index c.args.address c.loop-index.invariant.below
    (rw (← last) c.loop-index-test.true) c.requires.within in
    record { below = more.0; above = more.1 }
