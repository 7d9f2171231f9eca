use Rattle.std.proofs.Common.{ap}
use Rattle.pmap_model.specs.Label.{IsLabelTable}
use Rattle.prefix_keys.specs.Block.{width_of}
use Rattle.pmap_cert.specs.Format.{format_number}
use Rattle.pmap_cert.proofs.Plain.{of-kind}
use Rattle.pmap_cert.proofs.Written.{node_form}
use Rattle.pmap_cert.specs.Certificate.{certificate_of, Certificate}
use Rattle.pmap_cert.specs.CertificateText.{HasFormatText}
use Rattle.pmap_cert.proofs.certificate.Certificate.root.Goals as goal

text : (me : Certificate) → IsLabelTable me.labels → HasFormatText (certificate_of me)
text me table = record {
  format = of-kind me.labels me.format me.root me.version me.kind;
  table = table;
  root = node_form me.labels table me.root (width_of me.version) me.form;
}

pub returns-clause-form : goal.returns-clause-form
returns-clause-form c = text c.args.self.now c.laws.ensures.table

pub returns-clause-first : goal.returns-clause-first
returns-clause-first c = λ one. record { first = ap format_number one; text = text c.args.self.now c.laws.ensures.table }
