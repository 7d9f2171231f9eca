use Rattle.std.proofs.Common.{◌∙◌, ◌++◌, List, ℕ, ap, subst, sym}
use Rattle.std.proofs.lemmas.Result.{on_ok_weaker}
use Rattle.flow_io.specs.Sinks.{Adds}
use Rattle.pmap_model.specs.declared.label.LabelId.{LabelId}
use Rattle.pmap_cert.specs.CertificateModel.{ClaimOf, claim_of}
use Rattle.pmap_cert.specs.Node.{Node, first_node}
use Rattle.pmap_cert.specs.Opened.{Opens, cost_above, node_text, numbers_of, path_node, text_down, text_up}
use Rattle.pmap_cert.specs.Sinks.{adds-then}
use Rattle.pmap_cert.proofs.OpenedTexts.{chain-added, down-text, opens-claim}
use Rattle.pmap_cert.proofs.Printed.{on-printed}
use Rattle.pmap_cert.proofs.opened.+node.Goals as goal

pub push_chain-returns-clause-text : goal.push_chain-returns-clause-text
push_chain-returns-clause-text g t c =
    let is = c.chain_of-chain.ensures in
    let chain = c.chain_of-chain.result in
    let side = chain.side.0 in
    let count = c.args.path.now.count in
    let set = numbers_of c.claim.result.set.now in
    let down = text_down chain.cost side set chain.value count in
    let up = text_up side chain.value count in
    let then = adds-then g.S.Sink.sink g.S.Sink.began c.args.out.now in
    on-printed g.S.Sink.sink g.S.Sink.began c.push_node.new.out c.push_node.new.out c.push_up.new.out up c.push_up.result c.push_up.ensures (λ after end opens price.
    subst (Adds g.S.Sink.sink g.S.Sink.began c.args.out.now c.push_up.new.out)
    (down-text chain.cost side set chain.value end (c.claim.ensures.set ∙ ap (λ (c : ClaimOf ℕ). c.labels) (opens-claim (first_node c.args.at.now) end opens))
    (is.cost ∙ price ∙ ap (λ (id : LabelId). cost_above id.0 (claim_of end)) (sym is.side)) count
    ∙ (λ i. node_text (path_node ((is.side i).0) (is.value i) count end)))
    (then c.push_node.new.out c.push_up.new.out (down ++ node_text end) up
    (then c.push_down.new.out c.push_node.new.out down (node_text end) c.in_ok-push_down.ensures (c.in_ok-push_node.ensures.text end opens)) after))

pub push_node-returns-in-Chain-clause-text : goal.push_node-returns-in-Chain-clause-text
push_node-returns-in-Chain-clause-text g t c =
    let path = c.in-Chain.path.now in
    on_ok_weaker c.push_chain.result (λ text. chain-added c.in-Chain.claim.cost path.value path.count c.in-Chain.side.0 _ c.args.at.now
    (Adds g.S.Sink.sink g.S.Sink.began c.args.out.now c.push_chain.new.out) c.requires.some c.in-Chain.ensures
    (λ end opens. text end (subst (λ (ns : List Node). Opens (first_node ns) end) (sym c.next.ensures) opens)))
    c.push_chain.ensures.text
