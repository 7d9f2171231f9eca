use Rattle.pmap_cert.proofs.LineTexts.{header-none}
use Rattle.pmap_cert.proofs.header.read_header.Goals as goal

pub returns-in_err-format : goal.returns-in_err-format
returns-in_err-format c = rw c.from_residual.ensures (header-none c.args.text.now c.in_err-format.ensures)
