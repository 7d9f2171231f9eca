use Rattle.std.proofs.Common.{refl, sym}
use Rattle.ipfix_read.proofs.set.read_content.Goals as goal

pub returns-clause-read : goal.returns-clause-read
returns-clause-read c = (rw (sym c.in-Some.ensures, c.in-Ok.ensures.ok) refl, c.in_ok-apply_events.ensures)
