use Rattle.std.specs.Prelude.{List, [], ◌∷◌, ◌++◌, codes, map, ℕ, ◌≡◌, ◌^◌}
use Rattle.std.specs.Prelude.{◌<◌, ◌≤◌, All, IsTrue, fold, length, unwrap_or}
use Rattle.std.specs.Option.{ForSome, option_map_or}
use Rattle.std.specs.List.{IsDistinct}
use Rattle.prefix_keys.specs.Print.{block_text}
use Rattle.prefix_keys.specs.declared.version.Version.{Version}
use Rattle.prefix_keys.specs.Block.{width_of}
use Rattle.pmap_model.specs.ListModel.{Prefix, ListModel, list_label, is_same_prefix}
use Rattle.pmap_model.specs.MapModel.{Label, MapModel, map_label}
use Rattle.pmap_model.specs.Label.{is_label, with_label}
use Rattle.pmap_text.specs.Reading.{label_limit, mapping_limit, unknown}
use Rattle.pmap_cert.specs.Acceptance.{begins_before, HasBlock}
use Rattle.pmap_cert.specs.CertificateText.{text_of_lines, version_word}
use Rattle.pmap_model.specs.Sorting.{in_order}

-- the line of an entry: `BLOCK LABEL`
abbrev pub entry_line : Version → Prefix → List ℕ
entry_line version p = block_text version p.start p.bits ++ 32 ∷ p.label

-- the entries in order of their first addresses, and the shorter prefix first of two with the same one
abbrev pub entries_in_order : List Prefix → List Prefix
entries_in_order ps = in_order begins_before ps

-- the printed text of a prefix list: `map-name NAME` if there is a name, `mode VERSION`, and the lines of the entries
-- in order
abbrev pub list_text : ListModel → List ℕ
list_text l =
    text_of_lines (option_map_or (λ name. (codes "map-name" ++ 32 ∷ name) ∷ []) l.name []
    ++ (codes "mode" ++ 32 ∷ version_word l.version)
    ∷ map (entry_line l.version) (entries_in_order l.prefixes))

-- the label texts of entries, in the order of first occurrence
abbrev pub labels_of : List Prefix → List Label
labels_of prefixes = fold with_label [] (map (λ p. p.label) prefixes)

-- Below: only contracts of parts and proofs use these; no promise of the program rests on them.

-- A prefix list whose printed text can be read again.

-- the entry has a block of the version and a well-formed label
abbrev pub IsPrintedEntry : Version → Prefix → Type 0
IsPrintedEntry version p = HasBlock (width_of version) p × IsTrue (is_label p.label)

-- each entry has a block and a well-formed label, no two blocks are equal, and the name is well formed
pub record IsWellFormed (l : ListModel) : Type 0 where
  pub entries : All (IsPrintedEntry l.version) l.prefixes
  pub distinct : IsDistinct (is_same_prefix (width_of l.version)) l.prefixes
  pub name : ForSome l.name (λ name. IsTrue (is_label name))

-- the list is well formed, and has no more entries and no more label texts than a text may have
pub record CanBeReadAgain (l : ListModel) : Type 0 where
  pub form : IsWellFormed l
  pub few_entries : length l.prefixes ≤ mapping_limit
  pub few_labels : length (labels_of (entries_in_order l.prefixes)) ≤ label_limit

-- The printed text of `l`, read as a list, gives `r`: the same name and version, and the entries in order with their
-- labels.
pub record IsListAgain (l r : ListModel) : Type 0 where
  pub version : r.version ≡ l.version
  pub name : r.name ≡ l.name
  pub prefixes : r.prefixes ≡ entries_in_order l.prefixes

-- The printed text of `l`, read as a map, gives `m`: each address has the label that the list gives it, or the label of
-- a map without a default if the list gives none.
pub record IsMapAgain (l : ListModel) (m : MapModel) : Type 0 where
  pub version : m.version ≡ l.version
  pub name : m.name ≡ l.name
  pub labels : (a : ℕ) → a < 2 ^ width_of l.version → map_label m a ≡ unwrap_or (list_label l a) unknown
