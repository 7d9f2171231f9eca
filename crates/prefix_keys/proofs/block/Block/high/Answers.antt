use Rattle.std.proofs.Common.{arith}
use Rattle.prefix_keys.specs.Block.{width_of}
use Rattle.prefix_keys.proofs.Quotients.{block_end, width_at_most}
use Rattle.prefix_keys.proofs.block.Block.high.Goals as goal

-- the block ends within its version's numbers
pub invariant_of-result : goal.invariant_of-result
invariant_of-result c =
    let b = c.args.self.now in
    let end = block_end (width_of b.version) b.len b.value b.len_in_range b.in_range b.no_host_bit in
    record { in_range = omega arith }

pub overflow_add-result : goal.overflow_add-result
overflow_add-result c =
    let b = c.args.self.now in
    let end = block_end (width_of b.version) b.len b.value b.len_in_range b.in_range b.no_host_bit in
    let most = width_at_most b.version in
    omega arith
