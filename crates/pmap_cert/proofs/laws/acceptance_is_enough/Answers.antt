use Rattle.pmap_cert.proofs.Enough.{bound-accepted, equivalent-accepted, least-accepted}
use Rattle.pmap_cert.proofs.laws.acceptance_is_enough.Goals as goal

pub returns : goal.returns
returns c = record {
  equivalent = equivalent-accepted;
  least = least-accepted;
  bound = bound-accepted;
}
