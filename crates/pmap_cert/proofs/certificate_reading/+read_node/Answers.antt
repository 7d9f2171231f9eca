use Rattle.std.proofs.Common.{◌≡◌, ◌-◌, ℕ, length, subst, arith}
use Rattle.std.proofs.lemmas.Result.{err_from_is_err_and}
use Rattle.pmap_cert.specs.Inner.{IsReadNode}
use Rattle.pmap_cert.specs.Packed.{bits_in}
use Rattle.pmap_cert.proofs.ReadingSteps.{chain-below, chain-bits, chain-over, node-deep, node-fault, node-lower_fault, node-upper_fault, read-chain, read-inner, read-leaf}
use Rattle.pmap_cert.proofs.certificate_reading.+read_node.Goals as goal

pub returns-in_err-node-clause-err : goal.returns-in_err-node-clause-err
returns-in_err-node-clause-err t c =
    let p = err_from_is_err_and c.from_residual.result c.from_residual.ensures.1 in
    rw (p.1, p.2) (λ some. node-fault _ _ c.args.lines.now c.args.lines.now _ _ (c.in_err-node.ensures.err some))

pub returns-then-room-eq0-clause-err : goal.returns-then-room-eq0-clause-err
returns-then-room-eq0-clause-err t c = λ _.
    rw (c.if-room-eq0.true, c.fault-deepest.ensures) (node-deep _ _ _ _ _ _ (rw c.in-Inner.is at c.in_ok-node.ensures.ok))

pub returns-in_err-read_node-in-Inner-clause-err : goal.returns-in_err-read_node-in-Inner-clause-err
returns-in_err-read_node-in-Inner-clause-err t c =
    let p = err_from_is_err_and c.from_residual-in_err-read_node-in-Inner.result c.from_residual-in_err-read_node-in-Inner.ensures.1 in
    rw (p.1, p.2)
    (λ some. node-lower_fault _ _ _ _ _ _ (rw c.in-Inner.is at c.in_ok-node.ensures.ok) _ (omega arith) _ (c.in_err-read_node-in-Inner.ensures.err some))

pub returns-in_err-read_node-in-Inner-2-clause-err : goal.returns-in_err-read_node-in-Inner-2-clause-err
returns-in_err-read_node-in-Inner-2-clause-err t c =
    let p = err_from_is_err_and c.from_residual-in_err-read_node-in-Inner-2.result c.from_residual-in_err-read_node-in-Inner-2.ensures.1 in
    let low = c.in_ok-read_node-in-Inner.ensures.ok in
    rw (p.1, p.2)
    (λ some. node-upper_fault _ _ _ _ _ _ (rw c.in-Inner.is at c.in_ok-node.ensures.ok) _ (omega arith) _ _ low.read _
    (c.in_err-read_node-in-Inner-2.ensures.err some))

pub returns-in_ok-push-in-Leaf-clause-ok : goal.returns-in_ok-push-in-Leaf-clause-ok
returns-in_ok-push-in-Leaf-clause-ok t c =
    read-leaf _ _ _ _ _ _ _ _ _ (rw c.in-Leaf.is at c.in_ok-node.ensures.ok) c.in_ok-push-in-Leaf.ensures.ok

pub returns-in_ok-read_node-in-Inner-2-clause-ok : goal.returns-in_ok-read_node-in-Inner-2-clause-ok
returns-in_ok-read_node-in-Inner-2-clause-ok t c =
    read-inner _ _ _ _ _ _ _ _ _ _ _ _ _ _ (rw c.in-Inner.is at c.in_ok-node.ensures.ok) (omega arith) c.in_ok-push-in-Inner.ensures.ok
    c.in_ok-read_node-in-Inner.ensures.ok c.in_ok-read_node-in-Inner-2.ensures.ok

pub returns-then-deep-room-clause-err : goal.returns-then-deep-room-clause-err
returns-then-deep-room-clause-err t c = λ _.
    rw c.fault-deepest.ensures
    (chain-over _ _ _ _ _ _ _ _ _ (rw c.in-Chain.is at c.in_ok-node.ensures.ok) _ c.len-deep.result c.len-deep.ensures (omega (arith, c.if-deep-room.true)))

pub read_node-requires-in-Chain : goal.read_node-requires-in-Chain
read_node-requires-in-Chain t c =
    let limits = c.args.limits.now in
    let some = chain-bits limits.format limits.width limits.labels.now c.args.lines.now _ _ _ _ _ (rw c.in-Chain.is at c.in_ok-node.ensures.ok) in
    (omega (arith, some, c.len-deep.ensures, c.if-deep-room.false, c.decreases), tt)

pub returns-in_err-read_node-in-Chain-clause-err : goal.returns-in_err-read_node-in-Chain-clause-err
returns-in_err-read_node-in-Chain-clause-err t c =
    let p = err_from_is_err_and c.from_residual-in_err-read_node-in-Chain.result c.from_residual-in_err-read_node-in-Chain.ensures.1 in
    rw (p.1, p.2)
    (λ some. chain-below _ _ _ _ _ _ _ _ _ (rw c.in-Chain.is at c.in_ok-node.ensures.ok) _ c.len-deep.result c.len-deep.ensures (omega (arith, c.if-deep-room.false)) _
    (c.in_err-read_node-in-Chain.ensures.err some))

pub returns-in_ok-read_node-in-Chain-clause-ok : goal.returns-in_ok-read_node-in-Chain-clause-ok
returns-in_ok-read_node-in-Chain-clause-ok t c =
    let limits = c.args.limits.now in
    let deep : c.len-deep.result ≡ length (bits_in c.in-Chain.path.now) = c.len-deep.ensures in
    read-chain limits.format limits.width limits.labels.now c.args.room c.args.lines.now _ _ _ _ _ _ _ _ _ (rw c.in-Chain.is at c.in_ok-node.ensures.ok)
    (omega (arith, deep, c.if-deep-room.false)) c.in_ok-push-in-Chain.ensures.ok
    (subst (λ (n : ℕ). IsReadNode limits.format limits.width limits.labels.now (c.args.room - n) c.next_node.new.self c.push-in-Chain.new.self c.read_node-in-Chain.new.nodes c.read_node-in-Chain.new.lines)
    deep c.in_ok-read_node-in-Chain.ensures.ok)
