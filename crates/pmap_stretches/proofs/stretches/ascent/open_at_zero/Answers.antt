use Rattle.std.proofs.Common.{◌∙◌, ap, arith, slice_get, subst, sym}
use Rattle.pmap_stretches.specs.Sweep.{HasOneMore}
use Rattle.pmap_stretches.proofs.Ascents.{begin_later, open_pushed}
use Rattle.pmap_stretches.proofs.stretches.ascent.open_at_zero.Goals as goal

pub returns-then-mapping-ne0-clause-later : goal.returns-then-mapping-ne0-clause-later
returns-then-mapping-ne0-clause-later g c =
    begin_later c.loop-place.place 0 c.requires.order (ap (slice_get (g.M.Mappings.all c.args.mappings.now)) (sym c.number-number.ensures) ∙ c.mapping.ensures)
    (omega (arith, c.if-mapping-ne0.true))

pub loop-place-preserved : goal.loop-place-preserved
loop-place-preserved g c =
    let number = c.number-number.ensures in
    open_pushed c.loop-place.invariant c.mapping.result (subst (λ n. HasOneMore c.loop-place.opened n c.push.new.self) number c.in_ok-push.ensures)
    (ap (slice_get (g.M.Mappings.all c.args.mappings.now)) (sym number) ∙ c.mapping.ensures) (omega (arith, c.if-mapping-ne0.false))
