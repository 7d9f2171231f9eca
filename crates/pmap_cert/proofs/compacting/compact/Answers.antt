use Rattle.std.proofs.Common.{◌≡◌, ◌∙◌, Bor, IfOk, ap, rules}
use Rattle.pmap_cert.specs.Certificate.{certificate_of}
use Rattle.pmap_cert.specs.CertificateText.{certificate_text}
use Rattle.pmap_cert.specs.Compacting.{compact}
use Rattle.pmap_cert.specs.declared.certificate.Certificate.{Certificate}
use Rattle.pmap_cert.proofs.compacting.compact.Goals as goal

pub returns : goal.returns
returns c =
    let k = certificate_of c.args.certificate.now in
    let text = c.as_slice.ensures.value ∙ c.in_ok-text.ensures ∙ ap (λ (b : Bor Certificate). certificate_text (compact (certificate_of b.now))) c.in_ok-new.ensures in
    let read : IfOk c.read_cert.result (λ found. certificate_of found ≡ compact k) = (c.read_cert.ensures.only (compact k) (c.compact_has_a_text.ensures.text k c.root-root.ensures.form) text).0 in
    search rules
