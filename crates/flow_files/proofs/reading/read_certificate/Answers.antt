use Rattle.std.proofs.Common.{ℕ, ◌≡◌, ◌∙◌, ap, refl, rules, sym, true}
use Rattle.std.specs.Global.{Vec}
use Rattle.pmap_cert.specs.Certificate.{certificate_of}
use Rattle.pmap_cert.specs.CertificateText.{HasFormatText, certificate_text}
use Rattle.pmap_cert.specs.FormatReading.{format_reading}
use Rattle.flow_files.specs.BytesFault.{is_out_of_memory}
use Rattle.flow_files.specs.Outcomes.{with_bytes_fault}
use Rattle.flow_files.specs.declared.bytes_fault.BytesFault.TheVariants.{Certificate as InCertificate}
use Rattle.flow_files.proofs.ReadLemmas.{whole_is, whole_is_bad, whole_stops}
use Rattle.flow_files.proofs.reading.read_certificate.Goals as goal

pub returns-in_err-name : goal.returns-in_err-name
returns-in_err-name g c = whole_stops (λ (t : Vec ℕ). t.items) c.from_residual.ensures.1 c.in_err-name.ensures

pub returns-in-Ok : goal.returns-in-Ok
returns-in-Ok g c =
    let found = certificate_of c.in-Ok.certificate in
    let is : HasFormatText found × (c.in_ok-name.text.items ≡ certificate_text found) = search rules in
    whole_is (λ (t : Vec ℕ). t.items) c.in_ok-name.ensures found
    (ap (with_bytes_fault InCertificate) ((c.text_of_format_is_read_or_has_a_fault.ensures.read c.in_ok-name.text.items found).1 is)) refl

pub returns : goal.returns
returns g c =
    whole_is_bad (λ (t : Vec ℕ). t.items) c.in_ok-name.ensures (InCertificate c.in-Err.fault) c.of.ensures
    (λ bytes. ap (with_bytes_fault InCertificate) (ap format_reading (sym c.as_slice.ensures.value)
    ∙ c.in-Err.ensures.fault (λ same. let wrong : is_out_of_memory (InCertificate c.in-Err.fault) ≡ true = rw same refl in cc)))
