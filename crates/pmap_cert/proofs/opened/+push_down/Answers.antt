use Rattle.std.proofs.Common.{◌≡◌, ◌-◌, ◌==◌, ◌∷◌, ◌++◌, [], if◌then◌else◌, ℕ, suc, arith, subst}
use Rattle.flow_io.specs.Sinks.{Pushes}
use Rattle.pmap_cert.specs.CertificateText.{InnerLine, LeafLine, node_line_text}
use Rattle.pmap_cert.specs.Paths.{digit}
use Rattle.pmap_cert.specs.Opened.{numbers_of, set_above, text_down}
use Rattle.pmap_cert.proofs.Printed.{printed-then}
use Rattle.pmap_cert.proofs.opened.+push_down.Goals as goal

pub returns : goal.returns
returns g t c =
    let chain = c.args.chain.now in
    let set = numbers_of c.args.set.now in
    let more = c.args.bits - 1 in
    let next : suc more ≡ c.args.bits = omega (arith, c.if-bits-eq0.false) in
    subst (λ (k : ℕ). Pushes g.S.Sink.sink g.S.Sink.began c.args.out.now c.push_down.new.out (text_down chain.cost chain.side.0 set chain.value k) c.push_down.result) next
    (printed-then g.S.Sink.sink g.S.Sink.began c.args.out.now c.push_step.new.out c.push_down.new.out
    ((node_line_text (InnerLine chain.cost (set_above chain.side.0 set more)) ++ 10 ∷ []) ++ (if digit chain.value more == 1 then node_line_text (LeafLine chain.side.0) ++ 10 ∷ [] else []))
    (text_down chain.cost chain.side.0 set chain.value more) c.push_down.result c.in_ok-push_step.ensures c.push_down.ensures)
