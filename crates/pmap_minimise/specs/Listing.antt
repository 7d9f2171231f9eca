use Rattle.std.specs.Prelude.{◌≡◌, List, map, ℕ, ◌-◌, ◌<◌, ◌++◌, Option, All, length, [], None}
use Rattle.std.specs.Option.{ForSome}
use Rattle.prefix_keys.specs.declared.block.Block.{Block}
use Rattle.prefix_keys.specs.declared.version.Version.{Version}
use Rattle.prefix_keys.specs.Block.{width_of}
use Rattle.pmap_model.specs.ListModel.{Prefix}
use Rattle.pmap_model.specs.PrefixList.{prefix_of}
use Rattle.pmap_model.specs.declared.entry.Entry.{Entry}
use Rattle.pmap_model.specs.Label.{IsLabelTable}
use Rattle.pmap_model.specs.MapModel.{Label}
use Rattle.pmap_model.specs.MapText.{text_if_some}
use Rattle.pmap_model.specs.declared.label.LabelId.{LabelId}
use Rattle.label_trie.specs.TrieModel.{number_of}
use Rattle.pmap_cert.specs.Acceptance.{entries_of}
use Rattle.pmap_cert.specs.Node.{HasNumberForm, Node, tree_of}

pub record IsEntryOf (version : Version) (count : ℕ) (e : Entry) : Type 0 where
  pub version_is : e.block.version ≡ version
  pub known : e.label.0 < count

-- the new entries are the old ones and these, in a table of labels
pub record AddsPrefixes (table : List Label) (version : Version) (added : List Prefix)
    (old new : List Entry) : Type 0 where
  pub entries : map (prefix_of table) new ≡ map (prefix_of table) old ++ added
  pub fit : All (IsEntryOf version (length table)) old → All (IsEntryOf version (length table)) new

-- The new entries are the old ones and those of the node for this block and its inherited label, in each table that has
-- the numbers of the node and of the inherited label.
abbrev pub AddsEntries : Node → Block → Option LabelId → List Entry → List Entry → Type 0
AddsEntries node block inherited old new =
    (table : List Label) → IsLabelTable table → ForSome inherited (λ id. id.0 < length table)
    → HasNumberForm (length table) node (width_of block.version - block.len)
    → AddsPrefixes table block.version (entries_of (width_of block.version) table (tree_of table node)
    (text_if_some table inherited) block.len (number_of block)) old new

-- the entries are those of the node for the address space
pub record IsListedBy (version : Version) (node : Node) (entries : List Entry) : Type 0 where
  pub block : Block
  pub version_is : block.version ≡ version
  pub start : block.value ≡ 0
  pub bits : block.len ≡ 0
  pub adds : AddsEntries node block None [] entries
