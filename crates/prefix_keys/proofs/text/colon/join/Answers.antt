use Rattle.std.proofs.Common.{arith}
use Rattle.std.proofs.lemmas.Bool.Decides.{nat_tests}
use Rattle.prefix_keys.proofs.GroupNumbers.{moved, join-fits}
use Rattle.prefix_keys.proofs.text.colon.join.Goals as goal

pub overflow_add-result : goal.overflow_add-result
overflow_add-result c =
    let high = moved c.args.front.number c.args.front.count c.args.front.in_range (omega arith) in
    let fits = join-fits c.args.front.number c.args.front.count c.args.back.number c.args.back.count c.args.front.in_range c.args.back.in_range (omega arith) in
    omega arith

pub returns : goal.returns
returns c =
    let high = moved c.args.front.number c.args.front.count c.args.front.in_range (omega arith) in
    grind (arith, nat_tests)
