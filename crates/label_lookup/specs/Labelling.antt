use Rattle.std.specs.Prelude.{◌^◌, ℕ, Option, Some, None, nat_lt, option_and_then, option_map, if◌then◌else◌}
use Rattle.std.specs.Prelude.{◌≤◌, List, All, ◌<◌, length, slice_get, ◌≡◌, ◌+◌, ◌-◌, ◌*◌, slice_index}
use Rattle.std.specs.Borrow.{Bor}
use Rattle.std.specs.Option.{ForSome}
use Rattle.prefix_keys.specs.Conversion.{converted}
use Rattle.prefix_keys.specs.Text.{AddressOf}
use Rattle.prefix_keys.specs.Block.{width_of}
use Rattle.prefix_keys.specs.declared.version.Version.{Version}
use Rattle.pmap_model.specs.ListModel.{ListModel, list_label}
use Rattle.pmap_model.specs.MapModel.{Label, MapModel, map_label}
use Rattle.pmap_stretches.specs.Stretches.{StretchesModel, first_at, last_at, text_held}
use Rattle.label_trie.specs.TrieModel.{TrieModel, label_in}

-- The labels of the addresses of one version: those of a prefix map or of a prefix list, which contracts don't
-- distinguish.

-- the label of each address of the version, if it has one
pub record Labelling : Type 0 where
  pub version : Version
  pub label : ℕ → Option Label

-- the labelling of the addresses of a version by a function of their numbers; other numbers have no label
abbrev pub labelling : Version → (ℕ → Option Label) → Labelling
labelling version label =
    record {
      version = version;
      label = λ a. if nat_lt a (2 ^ width_of version) then label a else None;
    }

-- the labelling of a map, which has a label for each address, and that of a prefix list
abbrev pub labelling_of_map : MapModel → Labelling
labelling_of_map m = labelling m.version (λ a. Some (map_label m a))

abbrev pub labelling_of_list : ListModel → Labelling
labelling_of_list l = labelling l.version (list_label l)

-- The label of an address, such as that of a row: the label at the address converted to the labelling's version, or
-- none if it can't be converted.
abbrev pub label_by : Labelling → AddressOf → Option Label
label_by l address = option_and_then (λ place. l.label place.1) (converted l.version address)

-- the label of an address if there is a labelling; without one no address has a label
abbrev pub label_where : Option Labelling → AddressOf → Option Label
label_where labels address = option_and_then (λ l. label_by l address) labels

-- Below: only contracts of parts and proofs use these; no promise of the program rests on them.

abbrev pub labelling_by : {L : Type 0} → (L → Version) → (L → ℕ → Option Label) → L → Labelling
labelling_by version_of label_of labeller = record { version = version_of labeller; label = label_of labeller }

abbrev pub labelling_borrowed : {L : Type 0} → (L → Version) → (L → ℕ → Option Label) → Option (Bor L)
    → Option Labelling
labelling_borrowed version_of label_of labeller = option_map (λ l. labelling_by version_of label_of l.now) labeller

-- a trie of label numbers, with the table of their texts
pub record TrieLabels : Type 0 where
  pub trie : TrieModel
  pub table : List Label

abbrev pub AreNumbersKnown : TrieModel → List Label → Type 0
AreNumbersKnown t table = All (λ leaf. ForSome leaf.label (λ id. id < length table)) t.leaves

abbrev pub trie_label : TrieLabels → ℕ → Option Label
trie_label l a = option_and_then (slice_get l.table) (label_in l.trie a)

-- stretches, with the table of their labels
pub record StretchModel : Type 0 where
  pub table : List Label
  pub stretches : StretchesModel

abbrev pub labelling_of_stretches : StretchModel → Labelling
labelling_of_stretches m = labelling m.stretches.version (text_held m.table m.stretches)

-- the number of addresses with the same first 16 bits
abbrev pub block_size : StretchesModel → ℕ
block_size s = 2 ^ (width_of s.version - 16)

-- The stretch with the index begins at the first address of the block or before it, and it ends at the address before
-- the block or later.
pub record IsTopAt (s : StretchesModel) (block index : ℕ) : Type 0 where
  pub below : index < length s.firsts
  pub from : first_at s index ≤ block * block_size s
  pub to : block * block_size s ≤ last_at s index + 1

-- there is such a stretch for each of the 65536 blocks, and for the end
pub record AreTops (s : StretchesModel) (tops : List ℕ) : Type 0 where
  pub long : length tops ≡ 65537
  pub each : (block : ℕ) → block ≤ 65536 → IsTopAt s block (slice_index tops block)
