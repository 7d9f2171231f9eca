use Rattle.std.specs.Prelude.{◌≡◌, ◌≢◌, ℕ, List, Result, Err, IfErr, IfOk, length}
use Rattle.prefix_keys.specs.Block.{width_of}
use Rattle.pmap_cert.specs.CertificateText.{HasFormatText, certificate_text}
use Rattle.pmap_cert.specs.CertificateModel.{CertificateModel}
use Rattle.pmap_cert.specs.Format.{format_number}
use Rattle.pmap_cert.specs.FormatReading.{format_reading, CertFault, NoMemory}
use Rattle.pmap_cert.specs.Node.{HasChainForm, Node, tree_of}
use Rattle.pmap_cert.specs.Opened.{Opens}
pub use Rattle.pmap_cert.specs.declared.certificate.Certificate.{Certificate}

-- the model of a certificate of the code, with label texts in place of label numbers
abbrev pub certificate_of : Certificate → CertificateModel
certificate_of c =
    record { format = format_number c.format; version = c.version; table = c.labels; root = tree_of c.labels c.root }

-- The result of reading a text as a certificate: the certificate whose text it is, or the text's first fault. The text
-- of a certificate is read as that certificate unless an allocation fails, which is reported with line 0.
pub record ReturnsCertificate (text : List ℕ) (result : Result Certificate CertFault) : Type 0 where
  pub ok : IfOk result (λ c. text ≡ certificate_text (certificate_of c))
  pub only : (c : CertificateModel) → HasFormatText c → text ≡ certificate_text c
      → IfOk result (λ found. certificate_of found ≡ c) × IfErr result (λ fault. fault.kind ≡ NoMemory)
  pub fault : IfErr result (λ fault. fault.kind ≢ NoMemory → format_reading text ≡ Err fault)
  pub memory : IfErr result (λ fault. fault.kind ≡ NoMemory → fault.line ≡ 0)

-- the certificate of format 1 that a compact one is with each chain opened
pub record IsOpening (compact : Certificate) (c : CertificateModel) : Type 0 where
  pub node : Node
  pub opens : Opens compact.root node
  pub form : HasChainForm (length compact.labels) node (width_of compact.version)
  pub is : c ≡ record {
    format = 1;
    version = compact.version;
    table = compact.labels;
    root = tree_of compact.labels node;
  }
