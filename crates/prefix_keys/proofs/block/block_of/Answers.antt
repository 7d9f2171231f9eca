use Rattle.std.proofs.Common.{◌-◌, ◌^◌, arith, ℕ}
use Rattle.std.proofs.lemmas.Nat.{pow_pos}
use Rattle.prefix_keys.specs.Block.{width_of}
use Rattle.prefix_keys.proofs.Quotients.{and_low, cleared, cleared-mod}
use Rattle.prefix_keys.proofs.block.block_of.Goals as goal

pub invariant_of-result-clause-in_range : goal.invariant_of-result-clause-in_range
invariant_of-result-clause-in_range c = let h = c.args.addr.in_range in omega arith

pub invariant_of-result-clause-no_host_bit : goal.invariant_of-result-clause-no_host_bit
invariant_of-result-clause-no_host_bit c =
    let k : ℕ = width_of c.args.addr.version - c.args.len in
    rw (and_low c.args.addr.value c.host_mask.result k c.host_mask.ensures)
    (cleared-mod c.args.addr.value (2 ^ k) (pow_pos k))

pub returns-clause-first : goal.returns-clause-first
returns-clause-first c =
    let k : ℕ = width_of c.args.addr.version - c.args.len in
    rw (and_low c.args.addr.value c.host_mask.result k c.host_mask.ensures)
    (cleared c.args.addr.value (2 ^ k) (pow_pos k))
