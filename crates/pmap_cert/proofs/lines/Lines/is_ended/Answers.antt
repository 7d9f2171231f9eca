use Rattle.std.proofs.Common.{◌∙◌, ap, sym}
use Rattle.pmap_cert.specs.FormatReading.{Place, is_ended}
use Rattle.pmap_cert.proofs.Pieces.{is_ended-pieces}
use Rattle.pmap_cert.proofs.lines.Lines.is_ended.Goals as goal

pub returns : goal.returns
returns c =
    c.is_empty.ensures ∙ sym (is_ended-pieces c.self.inside.rest.now) ∙ ap (λ (place : Place). is_ended place.pieces) c.self.view_is
