use Rattle.std.proofs.Common.{◌+◌, ◌∙◌, ◌&&◌, [], sym}
use Rattle.cert_check.specs.Inner.{has_number}
use Rattle.cert_check.proofs.Sets.{claim-apart, claim-common, common-numbers, fault_by, numbers}
use Rattle.cert_check.proofs.claims.sets_fault.Goals as goal

pub returns-then-has_common : goal.returns-then-has_common
returns-then-has_common c =
    let lower = c.args.left.set.now in
    let upper = c.args.right.set.now in
    c.fault_by.ensures
    ∙ (λ i. fault_by (c.from-cost.ensures i) (c.from.ensures i + c.from-2.ensures i + 1) (c.has_all.ensures i && c.has_all-then-has_common.ensures i))
    ∙ sym (claim-apart c.args.labels.now c.laws.ensures.table c.args.claim.cost c.args.left.cost c.args.right.cost (numbers c.args.claim.set.now) (numbers lower) (numbers upper)
    c.requires.claim c.requires.left c.requires.right
    (sym (common-numbers (has_number []) (has_number (numbers upper)) lower) ∙ sym c.has_common.ensures ∙ c.if-has_common.true))

pub returns-else-has_common : goal.returns-else-has_common
returns-else-has_common c =
    let lower = c.args.left.set.now in
    let upper = c.args.right.set.now in
    c.fault_by-else-has_common.ensures
    ∙ (λ i. fault_by (c.from-cost.ensures i) (c.from.ensures i + c.from-2.ensures i)
    ((c.has_common-else-has_common.ensures ∙ common-numbers (has_number (numbers c.args.claim.set.now)) (has_number (numbers upper)) lower) i))
    ∙ sym (claim-common c.args.labels.now c.laws.ensures.table c.args.claim.cost c.args.left.cost c.args.right.cost (numbers c.args.claim.set.now) (numbers lower) (numbers upper)
    c.requires.claim c.requires.left c.requires.right
    (sym (common-numbers (has_number []) (has_number (numbers upper)) lower) ∙ sym c.has_common.ensures ∙ c.if-has_common.false))
