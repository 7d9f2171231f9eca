use Rattle.std.proofs.Common.{sym}
use Rattle.pmap_stretches.proofs.Ranges.{held_index}
use Rattle.pmap_stretches.proofs.stretches.Stretches.find_near.Goals as goal

pub returns-then-address-first-clause-index : goal.returns-then-address-first-clause-index
returns-then-address-first-clause-index c =
    sym (held_index c.args.self.now c.laws.ensures.every c.args.address c.find.result c.find.ensures.holds)

pub returns-clause-index : goal.returns-clause-index
returns-clause-index c =
    sym (held_index c.args.self.now c.laws.ensures.every c.args.address c.find-2.result c.find-2.ensures.holds)
