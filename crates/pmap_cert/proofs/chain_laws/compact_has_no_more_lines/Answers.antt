use Rattle.pmap_cert.proofs.Compacts.{compact-format, compact-lines, compact-table, compact-version}
use Rattle.pmap_cert.proofs.chain_laws.compact_has_no_more_lines.Goals as goal

pub returns : goal.returns
returns c = record {
  format = compact-format;
  version = compact-version;
  table = compact-table;
  lines = compact-lines;
}
