use Rattle.cert_check.proofs.Accepted.{certificate-accepted, certificate-none}
use Rattle.cert_check.proofs.laws.no_fault_is_acceptance.Goals as goal

pub returns : goal.returns
returns c = record { accepted = λ m l k form. certificate-accepted m l k form.root; no_fault = certificate-none }
