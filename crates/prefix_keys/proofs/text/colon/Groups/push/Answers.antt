use Rattle.std.proofs.Common.{◌+◌, arith}
use Rattle.prefix_keys.proofs.GroupNumbers.{number-more, bits-within}
use Rattle.prefix_keys.proofs.text.colon.Groups.push.Goals as goal

pub overflow_mul-result : goal.overflow_mul-result
overflow_mul-result c =
    let fits = number-more c.args.self.number c.args.self.count c.args.group c.args.self.in_range c.requires in
    let within = bits-within (c.args.self.count + 1) (omega arith) in
    omega arith

pub overflow_add-result-then-self-lt8 : goal.overflow_add-result-then-self-lt8
overflow_add-result-then-self-lt8 c =
    let fits = number-more c.args.self.number c.args.self.count c.args.group c.args.self.in_range c.requires in
    let within = bits-within (c.args.self.count + 1) (omega arith) in
    omega arith

pub invariant_of-result : goal.invariant_of-result
invariant_of-result c = record {
  count_in_range = omega arith;
  in_range = number-more c.args.self.number c.args.self.count c.from.result c.args.self.in_range (omega arith);
}
