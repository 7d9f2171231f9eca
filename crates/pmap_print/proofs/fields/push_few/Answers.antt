use Rattle.std.proofs.Common.{List, arith, subst, ℕ}
use Rattle.std.proofs.lemmas.List.{take-take}
use Rattle.flow_io.specs.Sinks.{Pushes}
use Rattle.pmap_print.proofs.fields.push_few.Goals as goal

pub returns-then-bytes-ge-FEW : goal.returns-then-bytes-ge-FEW
returns-then-bytes-ge-FEW g c =
    subst (λ (t : List ℕ). Pushes g.S.Sink.sink g.S.Sink.began c.args.out.now c.push_start.new.self t c.push_start.result)
    (take-take c.args.count 24 c.args.bytes.now (omega (arith, c.if-count-le-FEW.true))) c.push_start.ensures
