use Rattle.std.proofs.Common.{◌∙◌, ◌+◌, ◌&&◌, length, sym}
use Rattle.pmap_cert.specs.Packed.{bits_in}
use Rattle.cert_check.proofs.Sets.{chain-in, chain-more, chain-one, fault_by, numbers}
use Rattle.cert_check.proofs.claims.chain_fault.Goals as goal

pub returns-then-has_one : goal.returns-then-has_one
returns-then-has_one c =
    c.fault_by.ensures
    ∙ (λ i. fault_by (c.from-cost.ensures i) (c.from-below.ensures i) (c.has_one-has_side.ensures i))
    ∙ sym (chain-in c.args.labels.now c.laws.ensures.table (length (bits_in c.args.path.now)) c.args.claim.cost c.args.end.cost c.args.side.0 (numbers c.args.claim.set.now) (numbers c.args.end.set.now) c.requires.claim c.requires.end c.requires.side
    (sym c.has_one.ensures ∙ c.if-has_one.true))

pub returns-else-len-eq1 : goal.returns-else-len-eq1
returns-else-len-eq1 c =
    c.fault_by-else-len-eq1.ensures
    ∙ (λ i. fault_by (c.from-cost.ensures i) (c.from-below.ensures i + 1) (c.has_one-has_side.ensures i))
    ∙ sym (chain-more c.args.labels.now c.laws.ensures.table (length (bits_in c.args.path.now)) c.args.claim.cost c.args.end.cost c.args.side.0 (numbers c.args.claim.set.now) (numbers c.args.end.set.now) c.requires.claim c.requires.end c.requires.side
    (sym c.has_one.ensures ∙ c.if-has_one.false) (λ one. c.if-len-eq1.false (c.len.ensures ∙ one)))

pub returns-then-len-eq1 : goal.returns-then-len-eq1
returns-then-len-eq1 c =
    c.fault_by-then-len-eq1.ensures
    ∙ (λ i. fault_by (c.from-cost.ensures i) (c.from-below.ensures i + 1) (c.has_one-has_side.ensures i && c.has_all.ensures i))
    ∙ sym (chain-one c.args.labels.now c.laws.ensures.table (length (bits_in c.args.path.now)) c.args.claim.cost c.args.end.cost c.args.side.0 (numbers c.args.claim.set.now) (numbers c.args.end.set.now) c.requires.claim c.requires.end c.requires.side
    (sym c.has_one.ensures ∙ c.if-has_one.false) (sym c.len.ensures ∙ c.if-len-eq1.true))
