use Rattle.std.proofs.Common.{Some, None, ap, map, sym}
use Rattle.pmap_model.specs.declared.label.LabelId.{LabelId}
use Rattle.pmap_cert.specs.Format.{format_number}
use Rattle.pmap_cert.specs.Packed.{bits_in}
use Rattle.pmap_cert.proofs.LineTexts.{line-chain, line-inner}
use Rattle.pmap_cert.proofs.node_line.node_line.Goals as goal

pub returns-in-Some-2 : goal.returns-in-Some-2
returns-in-Some-2 c =
    rw c.as_slice-set.ensures.value
    (line-inner _ _ _ _ (sym c.in_default.ensures) _ (sym c.in-Some-after_byte.ensures)
    (Some ((c.in-Some-2.cost, map (λ (id : LabelId). id.0) c.claim.new.set.items), c.in-Some-2.rest.now)) (rw c.in-Some-2.is at c.in_ok-cost.ensures))

pub returns-in-None-2 : goal.returns-in-None-2
returns-in-None-2 c =
    line-inner _ _ _ _ (sym c.in_default.ensures) _ (sym c.in-Some-after_byte.ensures) None (rw c.in-None-2.is at c.in_ok-cost.ensures)

pub returns-in-Some-3 : goal.returns-in-Some-3
returns-in-Some-3 c =
    let chain = c.chain.new.buffer in
    rw c.as_slice-set-in-Some-3.ensures.value
    (line-chain _ _ _ _ (sym c.in_default.ensures) (sym c.in_default-after_byte.ensures) (ap format_number c.in-Two-Some.is-0) _ (sym c.in-Two-Some.ensures)
    (Some ((c.in-Some-3.cost, (bits_in chain.path, (c.in-Some-3.side.0, map (λ (id : LabelId). id.0) chain.set.items))), c.in-Some-3.rest.now))
    (rw c.in-Some-3.is at c.in_ok-cost-2.ensures))

pub returns-in-None-3 : goal.returns-in-None-3
returns-in-None-3 c =
    line-chain _ _ _ _ (sym c.in_default.ensures) (sym c.in_default-after_byte.ensures) (ap format_number c.in-Two-Some.is-0) _ (sym c.in-Two-Some.ensures) None
    (rw c.in-None-3.is at c.in_ok-cost-2.ensures)
