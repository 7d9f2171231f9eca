use Rattle.pmap_cert.specs.FormatReading.{fits_header, likely_header, BadHeader}
use Rattle.pmap_cert.specs.CertificateText.{format_header}
use Rattle.pmap_cert.specs.Format.{header_of}
use Rattle.pmap_cert.proofs.PrintedLines.{header-read, nowhere, there}
use Rattle.pmap_cert.proofs.lines.Lines.header.Goals as goal

pub returns-in-Some-clause-ok : goal.returns-in-Some-clause-ok
returns-in-Some-clause-ok c =
    rw (← c.self.view_is)
    (there fits_header format_header likely_header (λ x h. (header-read x h).0) (λ x h. (header-read x h).1) BadHeader c.self.inside.number c.self.inside.rest.now
    (header_of c.in-Some.header) c.in-Some.rest.now c.in-Some.ensures.right)

pub returns-in-None-clause-err : goal.returns-in-None-clause-err
returns-in-None-clause-err c =
    rw (c.fault.ensures, ← c.self.view_is)
    (nowhere fits_header format_header likely_header (λ x h. (header-read x h).0) (λ x h. (header-read x h).1) BadHeader c.self.inside.number c.self.inside.rest.now
    c.in-None.ensures)
