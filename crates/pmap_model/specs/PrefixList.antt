use Rattle.std.specs.Prelude.{List, map, ◌≡◌, ◌<◌, ◌≤◌, ℕ, length, slice_index_or}
use Rattle.std.specs.List.{AllZip}
use Rattle.std.specs.List.Sorted.{IsPermutation}
use Rattle.prefix_keys.specs.Block.{block_number, first_of, last_of, width_of}
use Rattle.prefix_keys.specs.Covers.{IsInBlock}
use Rattle.prefix_keys.specs.declared.block.Block.{Block}
use Rattle.pmap_model.specs.ListModel.{ListModel, Prefix}
use Rattle.pmap_model.specs.MapModel.{Label}
use Rattle.pmap_model.specs.MapText.{text_at, Statement}
pub use Rattle.pmap_model.specs.declared.entry.Entry.{Entry}
pub use Rattle.pmap_model.specs.declared.prefix_list.PrefixList.{PrefixList}

-- an entry as a prefix with its label text
abbrev pub prefix_of : List Label → Entry → Prefix
prefix_of table e = record { start = e.block.value; bits = e.block.len; label = text_at table e.label.0 }

-- a list text as a prefix list
abbrev pub list_of : PrefixList → ListModel
list_of l = record {
  version = l.version;
  name = l.name;
  prefixes = map (prefix_of l.labels) l.entries;
  table = l.labels;
}

-- the number among the blocks of the same length
abbrev pub number_of_block : Block → ℕ
number_of_block b = block_number (width_of b.version) b.len b.value

pub record HasStatement (e : Entry) (s : Statement) : Type 0 where
  pub version : s.span.low.version ≡ e.block.version
  pub low : s.span.low.value ≡ first_of (width_of e.block.version) e.block.len (number_of_block e.block)
  pub high : s.span.high.value ≡ last_of (width_of e.block.version) e.block.len (number_of_block e.block)
  pub label : s.label ≡ e.label

-- of two blocks that share an address, so that one is inside the other, the second is no shorter
abbrev pub IsNoShorter : Block → Block → Type 0
IsNoShorter b c = (a : ℕ) → b.version ≡ c.version → IsInBlock b a → IsInBlock c a → b.len ≤ c.len

abbrev pub LongerLater : List Entry → Type 0
LongerLater es =
    (i j : ℕ) (d : Entry) → i ≤ j → j < length es
    → IsNoShorter (slice_index_or es i d).block (slice_index_or es j d).block

-- the statements are those of the entries, in an order in which the longer of nested blocks comes later
pub record AreShortestFirst (entries : List Entry) (ss : List Statement) : Type 0 where
  pub sorted : List Entry
  pub moved : IsPermutation entries sorted
  pub later : LongerLater sorted
  pub each : AllZip HasStatement sorted ss
