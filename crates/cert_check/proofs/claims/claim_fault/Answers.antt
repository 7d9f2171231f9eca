use Rattle.std.proofs.Common.{◌+◌, ◌∙◌, ◌&&◌, ap, sym}
use Rattle.cert_check.proofs.Sets.{claim-same, claim-two, fault_by, numbers}
use Rattle.cert_check.proofs.claims.claim_fault.Goals as goal

pub returns-then-low-high : goal.returns-then-low-high
returns-then-low-high c =
    c.fault_by.ensures
    ∙ (λ i. fault_by (c.from-cost.ensures i) (c.from.ensures i + c.from-2.ensures i) (c.has_one-has_low.ensures i))
    ∙ sym (claim-same c.args.labels.now c.laws.ensures.table c.args.claim.cost c.args.left.cost c.args.right.cost (numbers c.args.claim.set.now)
    (numbers c.args.left.set.now) (numbers c.args.right.set.now) c.requires.claim c.requires.left c.requires.right c.in-Some.low.0 c.in-Some-single.high.0
    (ap numbers c.in-Some.ensures) (ap numbers c.in-Some-single.ensures) c.if-low-high.true)

pub returns-else-low-high : goal.returns-else-low-high
returns-else-low-high c =
    c.fault_by-else-low-high.ensures
    ∙ (λ i. fault_by (c.from-cost.ensures i) (c.from.ensures i + c.from-2.ensures i + 1) (c.has_one-has_low.ensures i && c.has_one-has_high.ensures i))
    ∙ sym (claim-two c.args.labels.now c.laws.ensures.table c.args.claim.cost c.args.left.cost c.args.right.cost (numbers c.args.claim.set.now)
    (numbers c.args.left.set.now) (numbers c.args.right.set.now) c.requires.claim c.requires.left c.requires.right c.in-Some.low.0 c.in-Some-single.high.0
    (ap numbers c.in-Some.ensures) (ap numbers c.in-Some-single.ensures) c.if-low-high.false)
