use Rattle.std.proofs.Common.{◌∷◌, [], List, ℕ, subst}
use Rattle.std.specs.Fmt.{decimal}
use Rattle.flow_io.specs.Sinks.{Pushes}
use Rattle.pmap_cert.proofs.Written.{take-second}
use Rattle.pmap_cert.proofs.writing.push_first.Goals as goal

pub returns : goal.returns
returns g c =
    let digits = c.digits_of-first.result.0 in
    subst (λ (t : List ℕ). Pushes g.S.Sink.sink g.S.Sink.began c.args.out.now c.push_start.new.self t c.push_start.result)
    (take-second c.digits_of-first.result.1 c.args.letter 32 (digits.0 ∷ digits.1 ∷ digits.2 ∷ []) (decimal c.args.number) c.digits_of-first.ensures.digits) c.push_start.ensures
