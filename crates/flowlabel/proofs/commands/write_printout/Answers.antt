use Rattle.std.proofs.Common.{◌≡◌, Bor, List, ℕ, subst}
use Rattle.pmap_cert.specs.Certificate.{certificate_of}
use Rattle.pmap_cert.specs.CertificateText.{certificate_text}
use Rattle.pmap_cert.specs.Compacting.{compact}
use Rattle.pmap_cert.specs.declared.certificate.Certificate.{Certificate}
use Rattle.flow_files.specs.Reports.{IsTextWritten}
use Rattle.flowlabel.proofs.commands.write_printout.Goals as goal

pub returns-in_ok-new-in-List : goal.returns-in_ok-new-in-List
returns-in_ok-new-in-List g c =
    rw c.in-List.is
    (subst (λ (text : List ℕ). IsTextWritten g.W.Output.output (λ out. out ≡ text) c.args.writer.now c.print_to-in-List-2.new.writer c.print_to-in-List-2.result)
    c.in_ok-new-in-List.ensures c.print_to-in-List-2.ensures)

pub returns-in-Certificate : goal.returns-in-Certificate
returns-in-Certificate g c = rw c.in-Certificate.is c.print_to-in-Certificate.ensures

pub returns-in_ok-new-in-Compact : goal.returns-in_ok-new-in-Compact
returns-in_ok-new-in-Compact g c =
    rw c.in-Compact.is
    (subst (λ (k : Bor Certificate). IsTextWritten g.W.Output.output (λ out. out ≡ certificate_text (compact (certificate_of k.now))) c.args.writer.now c.print_to-in-Compact.new.writer c.print_to-in-Compact.result)
    c.in_ok-new-in-Compact.ensures c.print_to-in-Compact.ensures)

pub returns-in-Opened : goal.returns-in-Opened
returns-in-Opened g c = rw c.in-Opened.is c.print_to-in-Opened.ensures
