use Rattle.std.proofs.Common.{◌∙◌, Ok, arith, ap, refl, sym}
use Rattle.pmap_cert.specs.CertificateText.{certificate_text}
use Rattle.pmap_cert.specs.Compacting.{compact}
use Rattle.pmap_cert.specs.FormatReading.{format_reading}
use Rattle.flow_files.specs.ByFile as role
use Rattle.flow_files.specs.declared.bytes_fault.BytesFault.TheVariants.{Certificate as InCertificate}
use Rattle.flow_files.specs.Outcomes.{Prints}
use Rattle.flowlabel.proofs.PrintoutLemmas.{faulty, is_printout}
use Rattle.flow_files.proofs.ReadLemmas.{named_in, none_read, text_read}
use Rattle.flowlabel.proofs.commands.output.Goals as goal

pub returns-in-Label : goal.returns-in-Label
returns-in-Label g c = rw c.in-Label.is c.output.ensures

pub returns-in-Info : goal.returns-in-Info
returns-in-Info g c = rw c.in-Info.is (c.output-in-Info.ensures c.in-Info.flows)

pub returns-in-Rows : goal.returns-in-Rows
returns-in-Rows g c = rw c.in-Rows.is (c.output-in-Rows.ensures c.in-Rows.flows)

pub returns-in-Uniq : goal.returns-in-Uniq
returns-in-Uniq g c = rw c.in-Uniq.is (c.output-in-Uniq.ensures c.in-Uniq.flows)

pub returns-in-Check : goal.returns-in-Check
returns-in-Check g c = rw c.in-Check.is (c.output-in-Check.ensures c.in-Check.map c.in-Check.list c.in-Check.certificate)

pub returns-in-Cat : goal.returns-in-Cat
returns-in-Cat g c = rw c.in-Cat.is c.output-in-Cat.ensures

pub returns-in-Shrink : goal.returns-in-Shrink
returns-in-Shrink g c = rw c.in-Shrink.is (c.output-in-Shrink.ensures c.in-Shrink.map)

pub returns-in_err-certificate-in-Recert : goal.returns-in_err-certificate-in-Recert
returns-in_err-certificate-in-Recert g c =
    rw c.in-Recert.is
    (faulty (λ k. Prints (certificate_text (compact k))) (text_read (none_read 2 c.args.files.now c.requires) role.Certificate (omega arith) (omega arith)
    (λ bytes. named_in InCertificate (λ own. refl) (format_reading bytes))
    c.in_err-certificate-in-Recert.ensures) (omega arith) (λ k fault is. cc) c.from_residual.ensures.1)

pub returns-in_ok-certificate-in-Recert : goal.returns-in_ok-certificate-in-Recert
returns-in_ok-certificate-in-Recert g c =
    rw c.in-Recert.is
    (is_printout (λ k. Prints (certificate_text (compact k))) (text_read (none_read 2 c.args.files.now c.requires) role.Certificate (omega arith) (omega arith)
    (λ bytes. named_in InCertificate (λ own. refl) (format_reading bytes))
    c.in_ok-certificate-in-Recert.ensures) (omega arith) (λ k same. (tt, λ out is. ap Ok (is ∙ ap (λ x. certificate_text (compact x)) (sym same)))))
