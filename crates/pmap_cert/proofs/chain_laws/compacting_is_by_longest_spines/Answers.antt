use Rattle.std.proofs.Common.{bytes_eq}
use Rattle.pmap_cert.proofs.Spines.{compacted-inner, compacted-leaf, spine-longest, spine-path}
use Rattle.pmap_cert.proofs.chain_laws.compacting_is_by_longest_spines.Goals as goal

pub returns : goal.returns
returns c = record {
  inner = compacted-inner bytes_eq;
  leaf = compacted-leaf bytes_eq;
  path = spine-path;
  longest = spine-longest;
}
