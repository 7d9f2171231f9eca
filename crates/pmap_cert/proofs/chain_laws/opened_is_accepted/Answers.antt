use Rattle.pmap_cert.proofs.Chains.{claim-opened, opened-accepted, opened-plain}
use Rattle.pmap_cert.proofs.chain_laws.opened_is_accepted.Goals as goal

pub returns : goal.returns
returns c = record {
  accepted = opened-accepted;
  claim = λ m l k h. claim-opened m l.prefixes k.root 0 0 h.root;
  plain = λ k. opened-plain k.root;
}
