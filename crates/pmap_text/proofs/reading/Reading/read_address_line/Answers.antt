use Rattle.std.proofs.Common.{◌≡◌, ℕ, ◌∙◌}
use Rattle.prefix_keys.specs.Block.{block_number, first_of, width_of}
use Rattle.pmap_text.proofs.MovedBlocks.{first_of-full}
use Rattle.pmap_text.proofs.reading.Reading.read_address_line.Goals as goal

pub returns-in-Ok : goal.returns-in-Ok
returns-in-Ok c =
    rw (← c.split_word.ensures.word, c.in-Ok.ensures.ok, ← c.split_word.ensures.rest) c.read_range.ensures

-- the block of one address begins at it
pub returns-in-Err : goal.returns-in-Err
returns-in-Err c =
    let first = c.args.first in
    let W : ℕ = width_of first.version in
    let to = c.block_of-block.ensures in
    let value : c.block_of-block.result.value ≡ first.value =
    to.first ∙ (λ i. first_of W (c.width.ensures i) (block_number W (c.width.ensures i) first.value)) ∙ first_of-full W first.value in
    rw (← c.split_word.ensures.word, c.in-Err.ensures.none)
    (rw (to.version, value, to.len, c.width.ensures) at c.read_after_block.ensures)
