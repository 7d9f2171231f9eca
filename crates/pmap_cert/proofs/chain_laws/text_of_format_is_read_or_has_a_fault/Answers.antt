use Rattle.pmap_cert.proofs.FormatWhole.{format-apart, format-either, format-iff}
use Rattle.pmap_cert.proofs.chain_laws.text_of_format_is_read_or_has_a_fault.Goals as goal

pub returns : goal.returns
returns c = record {
  read = format-iff;
  either = format-either;
  apart = format-apart;
}
