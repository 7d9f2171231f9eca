use Rattle.std.proofs.Common.{◌∙◌, ap, nat_lt}
use Rattle.cert_check.proofs.Carries.{longer-more}
use Rattle.cert_check.proofs.carrying.longest_covering.Goals as goal

pub loop-entry-preserved : goal.loop-entry-preserved
loop-entry-preserved c = λ k.
    ap (nat_lt k) c.longer-longest.ensures
    ∙ longer-more c.args.block.now c.args.entries.now c.loop-entry.entry-index k c.loop-entry.longest c.entry-item.result c.loop-entry-test.true c.entry-item.is (c.loop-entry.invariant k)
