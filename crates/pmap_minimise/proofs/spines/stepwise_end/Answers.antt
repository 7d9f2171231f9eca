use Rattle.std.proofs.Common.{arith}
use Rattle.pmap_minimise.proofs.MadeNodes.{step-by, step-to}
use Rattle.pmap_minimise.proofs.spines.stepwise_end.Goals as goal

pub loop-chosen-smaller : goal.loop-chosen-smaller
loop-chosen-smaller c =
    let less = (step-by c.args.stretches.now c.args.side.0 c.loop-chosen.end c.in-Some.chosen c.in-Some.ensures).smaller in
    omega arith

pub loop-chosen-preserved : goal.loop-chosen-preserved
loop-chosen-preserved c = record {
  counted = (step-by c.args.stretches.now c.args.side.0 c.loop-chosen.end c.in-Some.chosen c.in-Some.ensures).counted;
  all = λ last spine. c.loop-chosen.invariant.all last (step-to c.args.stretches.now c.args.side.0 c.loop-chosen.end c.in-Some.chosen last c.in-Some.ensures spine);
}
