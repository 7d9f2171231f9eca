use Rattle.std.proofs.Common.{◌-◌, ◌∙◌, List, ap, arith, replicate, subst, ℕ}
use Rattle.std.proofs.lemmas.List.{take-replicate}
use Rattle.flow_io.specs.Sinks.{Pushes}
use Rattle.pmap_print.proofs.fields.push_spaces.Goals as goal

pub returns : goal.returns
returns g c =
    subst (λ (t : List ℕ). Pushes g.S.Sink.sink g.S.Sink.began c.args.out.now c.push_few.new.out t c.push_few.result)
    (take-replicate (c.from-width.result - c.args.length) 255 32 (omega (arith, c.from-width.ensures, c.ranges.width.fits))
    ∙ ap (λ k. replicate (k - c.args.length) 32) c.from-width.ensures)
    c.push_few.ensures
