use Rattle.std.specs.Prelude.{◌≡◌, ℕ, ◌&&◌, Bool, List, [], ◌∷◌, Option, Some, None, nat_le, if◌then◌else◌}
use Rattle.std.specs.Option.{option_map_or, option_or}
use Rattle.prefix_keys.specs.Block.{first_of, last_of, width_of}
use Rattle.prefix_keys.specs.declared.version.Version.{Version}

-- A prefix map as contracts see it: statements over spans of addresses, the last of which decides, and a default.

-- a label's text
abbrev pub Label : Type 0
Label = List ℕ

-- the addresses from low to high have the label
pub record Mapping : Type 0 where
  pub low : ℕ
  pub high : ℕ
  pub label : Label

-- a map: its name, its statements in order, the label of addresses that no statement covers, and its label table
pub record MapModel : Type 0 where
  pub version : Version
  pub name : Option Label
  pub fallback : Label
  pub mappings : List Mapping
  pub table : List Label

-- the last mapping that passes the test
abbrev pub last_such : (Mapping → Bool) → List Mapping → Option Mapping
last_such p [] = None
last_such p (m ∷ ms) = option_or (last_such p ms) (if p m then Some m else None)

-- the mapping's span covers the address
abbrev pub spans : ℕ → Mapping → Bool
spans a m = nat_le m.low a && nat_le a m.high

-- the label of an address: that of the last mapping that covers it, otherwise the default
abbrev pub map_label : MapModel → ℕ → Label
map_label m a = option_map_or (λ p. p.label) (last_such (spans a) m.mappings) m.fallback

-- among addresses of W bits, the mapping's span covers some address of the block of n bits with the number q
abbrev pub meets : ℕ → ℕ → ℕ → Mapping → Bool
meets W n q m = nat_le m.low (last_of W n q) && nat_le (first_of W n q) m.high

-- the mapping's span covers each address of the block
abbrev pub spans_all : ℕ → ℕ → ℕ → Mapping → Bool
spans_all W n q m = nat_le m.low (first_of W n q) && nat_le (last_of W n q) m.high

-- the label that the last mapping that meets a block gives it: its label if it covers the whole block, none if it
-- covers a part, and the default if there is no such mapping
abbrev pub settled_by : ℕ → ℕ → ℕ → Label → Option Mapping → Option Label
settled_by W n q x None = Some x
settled_by W n q x (Some m) = if spans_all W n q m then Some m.label else None

-- A block is settled with a label if the last mapping that meets it covers all of it and has that label, or if no
-- mapping meets it and the default is that label. None means that the block is not settled.
abbrev pub settled_label : MapModel → ℕ → ℕ → Option Label
settled_label m n q =
    settled_by (width_of m.version) n q m.fallback
    (last_such (meets (width_of m.version) n q) m.mappings)

-- Below: only contracts of parts and proofs use these; no promise of the program rests on them.

-- the block of n bits with the number q is settled with the label x
abbrev pub IsSettled : MapModel → ℕ → ℕ → Label → Type 0
IsSettled m n q x = settled_label m n q ≡ Some x
