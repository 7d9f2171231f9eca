use Rattle.std.specs.Prelude.{◌≡◌, ℕ, zero, suc, ◌^◌, ◌<◌, ◌&&◌, ◌==◌, Bool, List, Option, Some}
use Rattle.std.specs.Prelude.{None, find, nat_lt, option_map, ◌≤◌, ◌↔◌, ◌∷◌, ◌++◌, All, Contains}
use Rattle.std.specs.Option.{option_or}
use Rattle.prefix_keys.specs.Block.{block_number, width_of}
use Rattle.prefix_keys.specs.declared.version.Version.{Version}
use Rattle.pmap_model.specs.MapModel.{Label, MapModel, map_label}

-- A prefix list as contracts see it, and the label that it gives an address under longest match.

-- the block of `bits` bits that contains the address `start`, with a label
pub record Prefix : Type 0 where
  pub start : ℕ
  pub bits : ℕ
  pub label : Label

-- any list of blocks of one version with labels, in which blocks may be equal
pub record ListModel : Type 0 where
  pub version : Version
  pub name : Option Label
  pub prefixes : List Prefix
  pub table : List Label

-- among addresses of W bits, the entry's block has n bits and covers the address
abbrev pub covers : ℕ → ℕ → ℕ → Prefix → Bool
covers W n a p = p.bits == n && block_number W n p.start == block_number W n a

-- the label of the longest entry of fewer than n bits that covers the address, and of equal blocks the first
abbrev pub label_below : ℕ → List Prefix → ℕ → ℕ → Option Label
label_below W ps zero a = None
label_below W ps (suc n) a =
    option_or (option_map (λ p. p.label) (find (covers W n a) ps)) (label_below W ps n a)

-- the label of the longest entry that covers the address, or none if no entry covers it
abbrev pub list_label : ListModel → ℕ → Option Label
list_label l a = label_below (width_of l.version) l.prefixes (suc (width_of l.version)) a

-- the list gives each address the same label as the map
pub record IsEquivalent (l : ListModel) (m : MapModel) : Type 0 where
  pub version : l.version ≡ m.version
  pub labels : (a : ℕ) → a < 2 ^ width_of m.version → list_label l a ≡ Some (map_label m a)

-- among addresses of W bits, the entry's block is strictly inside the block of n bits with the number q
abbrev pub lies_inside : ℕ → ℕ → ℕ → Prefix → Bool
lies_inside W n q p = nat_lt n p.bits && block_number W n p.start == q

-- Below: only contracts of parts and proofs use these; no promise of the program rests on them.

-- The terms of the laws about prefix lists: the longest entry that covers an address, and lists with the same entries.

-- among addresses of W bits, the entry's block covers the address
pub record CoversAddress (W a : ℕ) (p : Prefix) : Type 0 where
  pub fits : p.bits ≤ W
  pub number : block_number W p.bits p.start ≡ block_number W p.bits a

-- of those that cover the address, the entry is the longest, and of equal blocks the first
pub record IsLongestMatch (W : ℕ) (ps : List Prefix) (a : ℕ) (p : Prefix) : Type 0 where
  pub before : List Prefix
  pub following : List Prefix
  pub list : ps ≡ before ++ p ∷ following
  pub covers : CoversAddress W a p
  pub earlier : All (λ r. CoversAddress W a r → r.bits < p.bits) before
  pub later : All (λ r. CoversAddress W a r → r.bits ≤ p.bits) following

-- two entries have the same block
abbrev pub is_same_prefix : ℕ → Prefix → Prefix → Bool
is_same_prefix W p r = p.bits == r.bits && block_number W p.bits p.start == block_number W r.bits r.start

-- two entries have the same start and number of bits, so if a start has no host bits, the same block
abbrev pub same_start_and_bits : Prefix → Prefix → Bool
same_start_and_bits p r = p.start == r.start && p.bits == r.bits

-- entries with the same block have the same label
abbrev pub LabelsBlocksOnce : ℕ → List Prefix → Type 0
LabelsBlocksOnce W ps =
    (p r : Prefix) → Contains ps p → Contains ps r → p.bits ≡ r.bits →
    block_number W p.bits p.start ≡ block_number W r.bits r.start → p.label ≡ r.label

-- each entry of one list is in the other
abbrev pub HasSamePrefixes : List Prefix → List Prefix → Type 0
HasSamePrefixes ps rs = (p : Prefix) → Contains ps p ↔ Contains rs p
