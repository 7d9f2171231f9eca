use Rattle.std.specs.Prelude.{◌≡◌, ◌≢◌, ℕ, ◌+◌, ◌-◌, ◌*◌, ◌<◌, ◌≤◌, ◌^◌, List, Option, Some, None}
use Rattle.std.specs.Prelude.{All, Contains, length, map, nat_le, nat_lt, option_and_then, option_map}
use Rattle.std.specs.Prelude.{slice_get, slice_index, slice_index_or, if◌then◌else◌, ◌==◌}
use Rattle.std.specs.List.{prefix_len}
use Rattle.std.specs.Option.{ForSome}
use Rattle.prefix_keys.specs.Block.{width_of}
use Rattle.prefix_keys.specs.declared.version.Version.{Version}
use Rattle.prefix_keys.specs.declared.version.Version.TheVariants.{V4, V6}
use Rattle.pmap_model.specs.MapModel.{Label, Mapping, MapModel, last_such, spans}
use Rattle.pmap_model.specs.MapText.{mapping_of, mappings_of}
use Rattle.pmap_model.specs.declared.label.LabelId.{LabelId}
use Rattle.pmap_model.specs.declared.statement.Statement.{Statement}
use Rattle.pmap_stretches.specs.declared.stretches.Begins.{Begins}
pub use Rattle.pmap_stretches.specs.declared.stretches.Begins.TheVariants.{Narrow, Wide}

-- Stretches: the maximal ranges of consecutive addresses at which the same statement wins, or none does.

-- the statement that wins at an address: the last that covers it, if one does
abbrev pub winner : MapModel → ℕ → Option Mapping
winner m a = last_such (spans a) m.mappings

-- From `first` to `last` one statement wins, `top`, or none does. This is not so at the address before, nor at the
-- address after. (Of two equal statements the earlier one wins nowhere.)
pub record IsStretch (m : MapModel) (first last : ℕ) (top : Option Mapping) : Type 0 where
  pub ordered : first ≤ last
  pub within : last < 2 ^ width_of m.version
  pub same : (a : ℕ) → first ≤ a → a ≤ last → winner m a ≡ top
  pub before : (a : ℕ) → a + 1 ≡ first → winner m a ≢ top
  pub after : last + 1 < 2 ^ width_of m.version → winner m (last + 1) ≢ top

abbrev pub HaveAddresses : List Mapping → Type 0
HaveAddresses ms = All (λ s. s.low ≤ s.high) ms

abbrev pub label_seen : Option LabelId → Option Statement → Option LabelId
label_seen default None = default
label_seen default (Some s) = Some s.label

-- Among addresses of W bits, those from `first` to `last` are a stretch of each map of these statements, whatever the
-- texts of its labels. They have the label of the statement that wins there, or the default if none does.
pub record HasStretch (W : ℕ) (ss : List Statement) (default : Option LabelId) (first last : ℕ)
    (label : Option LabelId) : Type 0 where
  pub ordered : first ≤ last
  pub within : last < 2 ^ W
  pub top : Option Statement
  pub listed : (s : Statement) → top ≡ Some s → Contains ss s
  pub label_is : label ≡ label_seen default top
  pub stretch : (m : MapModel) → width_of m.version ≡ W → m.mappings ≡ mappings_of m.table ss
      → IsStretch m first last (option_map (mapping_of m.table) top)

-- Stretches as contracts see them: for the addresses of a version, the first address of each stretch, in ascending
-- order, and its label.
pub record StretchesModel : Type 0 where
  pub version : Version
  pub firsts : List ℕ
  pub labels : List (Option LabelId)

-- the first address of the stretch with an index, its last one, which is before the next stretch or the last of the
-- version, and its label
abbrev pub first_at : StretchesModel → ℕ → ℕ
first_at s i = slice_index s.firsts i

abbrev pub last_at : StretchesModel → ℕ → ℕ
last_at s i = if nat_lt (i + 1) (length s.firsts) then first_at s (i + 1) - 1 else 2 ^ width_of s.version - 1

abbrev pub label_at : StretchesModel → ℕ → Option LabelId
label_at s i = slice_index_or s.labels i None

pub record HoldsAddress (s : StretchesModel) (a i : ℕ) : Type 0 where
  pub index : i < length s.firsts
  pub from : first_at s i ≤ a
  pub to : a ≤ last_at s i

-- there is a stretch with a label for each first address; the first stretch begins at 0, and the others ascend within
-- the version's addresses
pub record HasEveryAddress (s : StretchesModel) : Type 0 where
  pub some : 0 < length s.firsts
  pub paired : length s.labels ≡ length s.firsts
  pub zero : first_at s 0 ≡ 0
  pub ascending : (i j : ℕ) → i < j → j < length s.firsts → first_at s i < first_at s j
  pub within : (i : ℕ) → i < length s.firsts → first_at s i < 2 ^ width_of s.version

-- the default is the label of the addresses that no statement covers
pub record AreStretches (ss : List Statement) (default : Option LabelId) (s : StretchesModel) : Type 0 where
  pub every : HasEveryAddress s
  pub each : (i : ℕ) → i < length s.firsts
      → HasStretch (width_of s.version) ss default (first_at s i) (last_at s i) (label_at s i)

-- neighbouring stretches have different labels
abbrev pub AreJoined : StretchesModel → Type 0
AreJoined s = (i : ℕ) → i + 1 < length s.firsts → label_at s (i + 1) ≢ label_at s i

-- the stretches of statements, with neighbours with the same label joined
pub record AreRunsOf (ss : List Statement) (s : StretchesModel) : Type 0 where
  pub every : HasEveryAddress s
  pub few : length s.firsts ≤ 2 * length ss + 1
  pub joined : AreJoined s

abbrev pub AreLabelsBelow : ℕ → StretchesModel → Type 0
AreLabelsBelow count s = All (λ label. ForSome label (λ id. id.0 < count)) s.labels

abbrev pub count_begun : List ℕ → ℕ → ℕ
count_begun firsts a = prefix_len (λ first. nat_le first a) firsts

-- the label of the stretch that has the address, the last one that begins at the address or before it, and its text
abbrev pub label_held : StretchesModel → ℕ → Option LabelId
label_held s a = label_at s (count_begun s.firsts a - 1)

abbrev pub text_held : List Label → StretchesModel → ℕ → Option Label
text_held table s a = option_and_then (λ id. slice_get table id.0) (label_held s a)

-- How stretches are stored. This is private, and callers of the crate need not read it.

-- the label for which a number is stored; the greatest number is stored for a missing label
abbrev pub label_kept : LabelId → Option LabelId
label_kept id = if id.0 == 4294967295 then None else Some id

abbrev pub stretches_of : Begins → StretchesModel
stretches_of (Narrow begins) = record {
  version = V4;
  firsts = map (λ b. b.first) begins.items;
  labels = map (λ b. label_kept b.label) begins.items;
}
stretches_of (Wide firsts labels) = record {
  version = V6;
  firsts = firsts.items;
  labels = map label_kept labels.items;
}
