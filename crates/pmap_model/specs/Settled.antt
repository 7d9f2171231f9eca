use Rattle.std.specs.Prelude.{◌≡◌, ℕ, ◌+◌, ◌<◌, ◌&&◌, Bool, List, [], ◌∷◌}
use Rattle.std.specs.Prelude.{Option, All, length, nat_le, nat_lt, if◌then◌else◌}
use Rattle.std.specs.Option.{ForSome}
use Rattle.prefix_keys.specs.Block.{first_of, last_of, width_of}
use Rattle.pmap_model.specs.MapModel.{Mapping, MapModel}
use Rattle.pmap_model.specs.MapText.{text_at, Statement, LabelId, mappings_of}

-- The ends of statements, which divide blocks.

-- the map has these statements, and its default is this label of its label table
pub record IsMapOf (W : ℕ) (ss : List Statement) (default : Option LabelId) (m : MapModel) : Type 0 where
  pub width : width_of m.version ≡ W
  pub mappings : m.mappings ≡ mappings_of m.table ss
  pub known : All (λ s. s.label.0 < length m.table) ss
  pub fallback : ForSome default (λ id. (id.0 < length m.table) × (text_at m.table id.0 ≡ m.fallback))

abbrev pub one_if : Bool → ℕ
one_if b = if b then 1 else 0

-- the number of ends of mappings between two addresses; at an end a mapping covers one of two neighbours and not the
-- other
unfoldable pub ends_of_mapping : ℕ → ℕ → Mapping → ℕ
ends_of_mapping first last m =
    one_if (nat_lt first m.low && nat_le m.low last) + one_if (nat_le first m.high && nat_lt m.high last)

unfoldable pub ends : ℕ → ℕ → List Mapping → ℕ
ends first last [] = 0
ends first last (m ∷ ms) = ends_of_mapping first last m + ends first last ms

-- the ends of statements inside a block
abbrev pub ends_inside : ℕ → List Statement → ℕ → ℕ → ℕ
ends_inside W ss n q = ends (first_of W n q) (last_of W n q) (mappings_of [] ss)
