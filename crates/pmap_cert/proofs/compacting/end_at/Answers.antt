use Rattle.pmap_cert.proofs.CompactPlaces.{ends-leaf}
use Rattle.pmap_cert.proofs.compacting.end_at.Goals as goal

pub returns-in-None : goal.returns-in-None
returns-in-None c = ends-leaf c.args.nodes.now c.args.ends.now c.args.number c.requires (rw c.in-None.is at c.halves_of.ensures)
