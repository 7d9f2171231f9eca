use Rattle.std.specs.Prelude.{ℕ, ◌+◌, ◌*◌, ◌&&◌, ◌==◌, Bool, List}
use Rattle.std.specs.List.{IsDistinct}
use Rattle.prefix_keys.specs.declared.block.Block.{Block}
use Rattle.pmap_model.specs.declared.entry.Entry.{Entry}

-- The entries of a prefix list and their blocks. The blocks of one list are of one version, so start and length
-- identify a block.

abbrev pub same_block : Entry → Entry → Bool
same_block d e = d.block.value == e.block.value && d.block.len == e.block.len

abbrev pub HasDistinctBlocks : List Entry → Type 0
HasDistinctBlocks entries = IsDistinct same_block entries

-- The rank of a block: blocks are ordered by first address, then by length, which is below 256.
abbrev pub rank_of : Block → ℕ
rank_of b = b.value * 256 + b.len
