use Rattle.std.specs.Prelude.{◌&&◌, ◌||◌, ◌==◌, Bool, not, List, [], ◌∷◌, filter, nat_le, nat_lt, if◌then◌else◌}
use Rattle.std.specs.List.{list_any}
use Rattle.prefix_keys.specs.Block.{block_number, first_of, width_of}
use Rattle.prefix_keys.specs.declared.block.Block.{Block}
use Rattle.pmap_model.specs.ListModel.{lies_inside}
use Rattle.pmap_model.specs.MapModel.{meets, spans_all}
use Rattle.pmap_model.specs.MapText.{mapping_of}
use Rattle.pmap_model.specs.PrefixList.{number_of_block as number_of, prefix_of}
use Rattle.pmap_model.specs.declared.entry.Entry.{Entry}
use Rattle.pmap_model.specs.declared.statement.Statement.{Statement}
use Rattle.cert_check.specs.Checking.{is_same_version}

-- The statements of a map and the entries of a list that affect a block. Those of another version than the block's
-- cover no address of it.

-- the items from the last one that passes the test, or all of them if none does
abbrev pub from_last : {X : Type 0} → (X → Bool) → List X → List X
from_last p [] = []
from_last p (x ∷ xs) = if list_any p xs then from_last p xs else x ∷ xs

-- the statement covers some address of the block
abbrev pub meets_block : Block → Statement → Bool
meets_block b s = is_same_version s.span.low.version b.version
    && meets (width_of b.version) b.len (number_of b) (mapping_of [] s)

-- the statement covers each address of the block
abbrev pub spans_block : Block → Statement → Bool
spans_block b s =
    is_same_version s.span.low.version b.version && spans_all (width_of b.version) b.len (number_of b) (mapping_of [] s)

-- the statements that meet the block, from the last one that covers it whole (all of them if none does), in the given
-- order
abbrev pub carried_to : Block → List Statement → List Statement
carried_to b ss = from_last (spans_block b) (filter (meets_block b) ss)

-- the entry's block covers the block
abbrev pub covers_whole : Block → Entry → Bool
covers_whole b e =
    is_same_version e.block.version b.version
    && (nat_le e.block.len b.len
    && block_number (width_of b.version) e.block.len e.block.value
    == block_number (width_of b.version) e.block.len (first_of (width_of b.version) b.len (number_of b)))

-- the entry's block is strictly inside the block
abbrev pub is_inside : Block → Entry → Bool
is_inside b e =
    is_same_version e.block.version b.version && lies_inside (width_of b.version) b.len (number_of b) (prefix_of [] e)

-- the longest entry that covers the block, if there is one, and those strictly inside it, in the given order
abbrev pub entries_carried_to : Block → List Entry → List Entry
entries_carried_to b es =
    filter (λ e. (covers_whole b e && not (list_any (λ r. covers_whole b r && nat_lt e.block.len r.block.len) es))
    || is_inside b e) es
