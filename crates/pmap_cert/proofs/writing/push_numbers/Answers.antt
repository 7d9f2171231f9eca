use Rattle.std.proofs.Common.{map, arith}
use Rattle.std.proofs.lemmas.Grind.{common_steps}
use Rattle.std.specs.Fmt.{decimal}
use Rattle.pmap_cert.proofs.Written.{joined-numbers}
use Rattle.pmap_cert.proofs.writing.push_numbers.Goals as goal

pub returns : goal.returns
returns g c = rw (joined-numbers (decimal c.args.first) (map (λ id. id.0) c.args.set.now)) (grind (arith, common_steps))
