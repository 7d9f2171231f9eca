use Rattle.std.proofs.Common.{ℕ, ◌≡◌, ◌∙◌, None, Option, Ok, Result, Err, Some, ap, length, refl, rules, true}
use Rattle.std.specs.Global.{Vec}
use Rattle.std.specs.Prelude.{option_map}
use Rattle.pmap_model.specs.ListModel.{ListModel}
use Rattle.pmap_model.specs.MapModel.{MapModel}
use Rattle.pmap_model.specs.MapText.{map_of}
use Rattle.pmap_model.specs.PrefixList.{list_of}
use Rattle.pmap_cert.specs.CertificateModel.{CertificateModel}
use Rattle.pmap_cert.specs.FormatReading.{format_reading}
use Rattle.pmap_cert.specs.declared.fault.CertFault.{CertFault}
use Rattle.cert_check.specs.Checking.{first_fault, text_fault}
use Rattle.cert_check.specs.declared.fault.CheckFault.{CheckFault}
use Rattle.cert_check.specs.declared.fault.TextFault.{TextFault}
use Rattle.cert_check.specs.declared.fault.TextFault.TheVariants as text
use Rattle.pmap_model.specs.Steps.{◌>>=◌}
use Rattle.std.specs.Option.{option_map_or}
use Rattle.flow_files.specs.BytesFault.{is_out_of_memory}
use Rattle.flow_files.specs.Outcomes.{with_bytes_fault}
use Rattle.flow_files.specs.declared.bytes_fault.BytesFault.{BytesFault}
use Rattle.flow_files.specs.declared.bytes_fault.BytesFault.TheVariants.{Certificate as InCertificate, Check as InCheck}
use Rattle.flowlabel.specs.Output.{minimal_text}
use Rattle.flow_files.proofs.ReadLemmas.{whole_is, whole_is_bad, whole_stops}
use Rattle.flowlabel.proofs.commands.check.checked.Goals as goal

-- a fault of the text of a certificate, or of the certificate, as one of its file
abbrev in_text : TextFault → BytesFault
in_text (text.Certificate fault) = InCertificate fault
in_text (text.Check fault) = InCheck fault

-- the reading of a certificate by its first fault
by_fault : (m : MapModel) (l : ListModel) (reading : Result CertificateModel CertFault)
    → (with_bytes_fault InCertificate reading >>= (λ c. option_map_or (λ fault. Err (InCheck fault)) (first_fault m l c) (Ok l)))
    ≡ option_map_or (λ fault. Err (in_text fault)) (text_fault m l reading) (Ok l)
by_fault m l (Err fault) = refl
by_fault m l (Ok c) = by (first_fault m l c)
  where
    by : (found : Option CheckFault) → ◌≡◌ {A = Result ListModel BytesFault} (option_map_or (λ fault. Err (InCheck fault)) found (Ok l))
        (option_map_or (λ fault. Err (in_text fault)) (option_map text.Check found) (Ok l))
    by None = refl
    by (Some fault) = refl

pub returns-in_err-name : goal.returns-in_err-name
returns-in_err-name g c = λ m l of_map of_list. whole_stops (λ (t : Vec ℕ). t.items) c.from_residual.ensures.1 c.in_err-name.ensures

pub returns-in-Ok : goal.returns-in-Ok
returns-in-Ok g c = λ m l of_map of_list.
    let count = length (list_of l).prefixes in
    let counted = c.in-Ok.ensures.count m l of_map of_list in
    let text : c.into_bytes.result.items ≡ minimal_text count = search rules in
    whole_is (λ (t : Vec ℕ). t.items) c.in_ok-name.ensures (list_of l)
    (by_fault (map_of m) (list_of l) (format_reading c.in_ok-name.text.items)
    ∙ ap (λ (found : Option TextFault). option_map_or (λ fault. Err (in_text fault)) found (Ok (list_of l))) (rw c.as_slice.ensures.value at c.in-Ok.ensures.fault m l of_map of_list)) text

pub returns-in-Err-Check : goal.returns-in-Err-Check
returns-in-Err-Check g c = λ m l of_map of_list.
    let fault = rw (c.in-Err-Check.field-0-is, c.as_slice.ensures.value) at c.in-Err-Check.ensures.fault m l of_map of_list in
    whole_is_bad (λ (t : Vec ℕ). t.items) c.in_ok-name.ensures (InCheck c.in-Err-Check.fault) (rw c.in-Err-Check.field-0-is at c.of.ensures)
    (λ bytes. by_fault (map_of m) (list_of l) (format_reading c.in_ok-name.text.items)
    ∙ ap (λ (found : Option TextFault). option_map_or (λ fault. Err (in_text fault)) found (Ok (list_of l))) fault)

pub returns : goal.returns
returns g c = λ m l of_map of_list.
    let fault = rw (c.in-Err-Certificate.field-0-is, c.as_slice.ensures.value) at c.in-Err-Certificate.ensures.fault m l of_map of_list in
    whole_is_bad (λ (t : Vec ℕ). t.items) c.in_ok-name.ensures (InCertificate c.in-Err-Certificate.fault)
    (rw c.in-Err-Certificate.field-0-is at c.of-in-Err-Certificate.ensures)
    (λ bytes. by_fault (map_of m) (list_of l) (format_reading c.in_ok-name.text.items)
    ∙ ap (λ (found : Option TextFault). option_map_or (λ fault. Err (in_text fault)) found (Ok (list_of l)))
    (fault.0 (λ same. let wrong : is_out_of_memory (InCertificate c.in-Err-Certificate.fault) ≡ true = rw same refl in cc)))
