use Rattle.pmap_cert.proofs.Enough.{equivalent-accepted, least-accepted}
use Rattle.pmap_cert.proofs.Minimal.{accepted-minimal, length-minimal}
use Rattle.pmap_cert.proofs.laws.minimal_pair_is_accepted.Goals as goal

pub returns-clause-accepted : goal.returns-clause-accepted
returns-clause-accepted c = accepted-minimal

pub returns-clause-count : goal.returns-clause-count
returns-clause-count c = length-minimal

pub returns-clause-equivalent : goal.returns-clause-equivalent
returns-clause-equivalent c m l cert pair = equivalent-accepted m l cert (accepted-minimal m l cert pair)

pub returns-clause-least : goal.returns-clause-least
returns-clause-least c m l cert pair = least-accepted m l cert (accepted-minimal m l cert pair)
