use Rattle.std.proofs.Common.{refl}
use Rattle.std.proofs.lemmas.Result.{err_from_is_err_and}
use Rattle.pmap_cert.proofs.PackedLines.{line-pushed, more-kept}
use Rattle.pmap_cert.proofs.nodes.Nodes.push.Goals as goal

pub returns-in_err-line-clause-err : goal.returns-in_err-line-clause-err
returns-in_err-line-clause-err c =
    let p = err_from_is_err_and c.from_residual.result c.from_residual.ensures.1 in
    rw (p.1) (more-kept _ _ c.in_err-line.ensures.more c.self.inside.lines.items _ c.self.invariant c.self.view_is _ refl).are

pub returns-in_err-push-clause-err : goal.returns-in_err-push-clause-err
returns-in_err-push-clause-err c =
    let p = err_from_is_err_and c.from_residual-in_err-push.result c.from_residual-in_err-push.ensures.1 in
    rw (p.1) (more-kept _ _ c.in_ok-line.ensures.more c.self.inside.lines.items _ c.self.invariant c.self.view_is _ c.in_err-push.ensures.items).are

pub invariant_of-self-2 : goal.invariant_of-self-2
invariant_of-self-2 c =
    (line-pushed _ _ c.in_ok-line.ensures.more c.self.inside.lines.items _ c.self.invariant c.self.view_is _ _ _ c.in_ok-line.ensures.ok c.in_ok-push.ensures.items).packed

pub returns-clause-ok : goal.returns-clause-ok
returns-clause-ok c =
    (line-pushed _ _ c.in_ok-line.ensures.more c.self.inside.lines.items _ c.self.invariant c.self.view_is _ _ _ c.in_ok-line.ensures.ok c.in_ok-push.ensures.items).are
