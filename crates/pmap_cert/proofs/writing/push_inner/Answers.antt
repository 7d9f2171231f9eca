use Rattle.std.proofs.Common.{map, arith}
use Rattle.std.specs.Fmt.{decimal}
use Rattle.std.proofs.lemmas.Grind.{common_steps}
use Rattle.pmap_cert.proofs.Written.{joined-numbers}
use Rattle.pmap_cert.proofs.writing.push_inner.Goals as goal

pub returns : goal.returns
returns g c = rw (joined-numbers (decimal c.args.claim.cost) (map (λ id. id.0) c.args.claim.set.now)) (grind (arith, common_steps))
