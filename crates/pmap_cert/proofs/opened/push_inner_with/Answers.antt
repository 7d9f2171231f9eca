use Rattle.std.proofs.Common.{arith}
use Rattle.std.specs.Fmt.{decimal}
use Rattle.std.proofs.lemmas.Grind.{common_steps}
use Rattle.pmap_cert.specs.Opened.{numbers_of, with_number}
use Rattle.pmap_cert.proofs.Written.{joined-numbers}
use Rattle.pmap_cert.proofs.opened.push_inner_with.Goals as goal

pub returns : goal.returns
returns g c = rw (joined-numbers (decimal c.args.cost) (with_number c.args.side.0 (numbers_of c.args.set.now))) (grind (arith, common_steps))
