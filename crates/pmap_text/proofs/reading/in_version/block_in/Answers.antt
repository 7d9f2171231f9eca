use Rattle.std.proofs.Common.{◌≡◌, ℕ, ◌+◌, ◌-◌, Ok, ap, sym, ◌∙◌}
use Rattle.prefix_keys.specs.Block.{block_number, first_of, width_of}
use Rattle.pmap_text.specs.Reading.{number_in}
use Rattle.pmap_text.proofs.MovedBlocks.{first_of-placed}
use Rattle.pmap_text.proofs.reading.in_version.block_in.Goals as goal

pub returns-clause-ok : goal.returns-clause-ok
returns-clause-ok c =
    let block = c.args.block in
    let to = c.in_ok-low.ensures in
    let number : number_in c.args.version (block.version, block.value) ≡ Ok c.in_ok-low.low.value =
    (λ i. number_in c.args.version (sym c.low.ensures.version i, sym c.low.ensures.value i)) ∙ to.ok in
    let begins = first_of-placed c.args.version block.version block.value block.len c.in_ok-low.low.value block.len_in_range block.no_host_bit number in
    let len : block.len + (c.width.result - c.width-2.result) ≡ block.len + (width_of c.args.version - width_of block.version) =
    λ i. block.len + (c.width.ensures i - c.width-2.ensures i) in
    let placed : c.block_of.result.value ≡ c.in_ok-low.low.value =
    c.block_of.ensures.first ∙ (λ i. first_of (width_of (to.version i)) (len i) (block_number (width_of (to.version i)) (len i) c.in_ok-low.low.value)) ∙ begins in
    number ∙ ap (λ (n : ℕ). Ok n) (sym placed)
