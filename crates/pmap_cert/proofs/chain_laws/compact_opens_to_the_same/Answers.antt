use Rattle.pmap_cert.proofs.Compacts.{compact-claims, compact-shape, compact-spines}
use Rattle.pmap_cert.proofs.chain_laws.compact_opens_to_the_same.Goals as goal

pub returns : goal.returns
returns c = record {
  shape = compact-shape;
  claims = compact-claims;
  spines = compact-spines;
}
