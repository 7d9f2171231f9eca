use Rattle.pmap_cert.proofs.FormatWhole.{is_only, is_text}
use Rattle.pmap_cert.proofs.certificate_reading.read_cert_with_hashing.Goals as goal

pub returns : goal.returns
returns c = record {
  ok = is_text c.args.text.now c.read_all.result c.read_all.ensures.ok;
  only = is_only c.args.text.now c.read_all.result c.read_all.ensures.ok c.read_all.ensures.err;
  fault = c.read_all.ensures.err;
  memory = c.read_all.ensures.memory;
}
