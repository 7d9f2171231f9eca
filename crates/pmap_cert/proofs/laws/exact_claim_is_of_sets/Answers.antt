use Rattle.pmap_cert.proofs.Sets.{exact_claim-apart, exact_claim-common, same-exact_claim}
use Rattle.pmap_cert.proofs.laws.exact_claim_is_of_sets.Goals as goal

pub returns : goal.returns
returns c = record {
  common = exact_claim-common;
  apart = exact_claim-apart;
  same = same-exact_claim;
}
