use Rattle.std.proofs.Common.{sym}
use Rattle.std.proofs.lemmas.List.{take_rest}
use Rattle.pmap_cert.proofs.Pieces.{line_from-feed, line_from-whole}
use Rattle.pmap_cert.proofs.lines.Lines.next.Goals as goal

pub returns : goal.returns
returns c =
    rw (← c.self.view_is, take_rest)
    (sym (line_from-feed c.self.inside.number c.self.inside.rest.now c.in_ok-end.end (sym c.in_ok-end.ensures)))

pub returns-in_err-end : goal.returns-in_err-end
returns-in_err-end c =
    rw (c.from_residual.ensures, ← c.self.view_is)
    (sym (line_from-whole c.self.inside.number c.self.inside.rest.now (sym c.in_err-end.ensures)))
