use Rattle.std.proofs.Common.{◌≡◌, ◌≢◌, ◌+◌, ◌-◌, ◌^◌, arith, ℕ}
use Rattle.prefix_keys.specs.Block.{width_of}
use Rattle.prefix_keys.specs.declared.block.Block.{Block}
use Rattle.prefix_keys.proofs.Quotients.{AreHalves, are_halves, width_at_most}
use Rattle.prefix_keys.proofs.block.Block.halves.Goals as goal

-- facts about the halves of the block, where h is the size of a half
facts : (b : Block) (h : ℕ) → b.len ≢ width_of b.version → h ≡ 2 ^ (width_of b.version - (b.len + 1)) →
    AreHalves (width_of b.version) b.len b.value h
facts b h short is =
    let most = b.len_in_range in
    are_halves (width_of b.version) b.len b.value h (omega arith) b.in_range b.no_host_bit is

pub overflow_add-half : goal.overflow_add-half
overflow_add-half c =
    let fits = (facts c.args.self.now (c.host_mask-half.result + 1) (omega arith) c.host_mask-half.ensures).upper_fits in
    let most = width_at_most c.args.self.now.version in
    omega arith

pub overflow_add-upper : goal.overflow_add-upper
overflow_add-upper c =
    let fits = (facts c.args.self.now (c.host_mask-half.result + 1) (omega arith) c.host_mask-half.ensures).upper_fits in
    let most = width_at_most c.args.self.now.version in
    omega arith

pub invariant_of-lower : goal.invariant_of-lower
invariant_of-lower c =
    let most = c.args.self.now.len_in_range in
    record {
      len_in_range = omega arith;
      in_range = c.args.self.now.in_range;
      no_host_bit = (facts c.args.self.now (c.host_mask-half.result + 1) (omega arith) c.host_mask-half.ensures).lower_free;
    }

pub invariant_of-upper : goal.invariant_of-upper
invariant_of-upper c =
    let most = c.args.self.now.len_in_range in
    record {
      len_in_range = omega arith;
      in_range = (facts c.args.self.now (c.host_mask-half.result + 1) (omega arith) c.host_mask-half.ensures).upper_fits;
      no_host_bit = (facts c.args.self.now (c.host_mask-half.result + 1) (omega arith) c.host_mask-half.ensures).upper_free;
    }

pub returns-clause-lower_number : goal.returns-clause-lower_number
returns-clause-lower_number c = (facts c.args.self.now (c.host_mask-half.result + 1) (omega arith) c.host_mask-half.ensures).lower

pub returns-clause-upper_number : goal.returns-clause-upper_number
returns-clause-upper_number c = (facts c.args.self.now (c.host_mask-half.result + 1) (omega arith) c.host_mask-half.ensures).upper
