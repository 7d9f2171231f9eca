use Rattle.std.specs.Prelude.{◌≡◌, ℕ, ◌+◌, ◌*◌, ◌/◌, ◌%◌, ◌^◌, ◌<◌, ◌≤◌, ◌==◌, Bool, List}
use Rattle.std.specs.Prelude.{[], ◌∷◌, ◌++◌, length, map, slice_index_or, if◌then◌else◌}
use Rattle.std.proofs.Common.{lit≤}
use Rattle.std.specs.List.{slice_range}
use Rattle.pmap_model.specs.declared.label.LabelId.{LabelId}
use Rattle.pmap_cert.specs.FormatReading.{ChainLine, DueLine, InnerLine, LeafLine}
pub use Rattle.pmap_cert.specs.declared.nodes.PackedChain.{PackedChain}
pub use Rattle.pmap_cert.specs.declared.packed.Packed.{Packed}
pub use Rattle.pmap_cert.specs.declared.packed.Unpacked.{Unpacked}
pub use Rattle.pmap_cert.specs.declared.packed.Unpacked.TheVariants.{Chain, Inner, Leaf, SideChain, Single}
use Rattle.pmap_cert.specs.declared.path.Path.{Path}
pub use Rattle.pmap_cert.specs.declared.node.Node.{Node}
use Rattle.pmap_cert.specs.declared.node.Node.TheVariants.{Chain as ChainNode, Inner as InnerNode, Leaf as LeafNode}
use Rattle.pmap_cert.specs.Paths.{path_to}

-- the number with these lower and upper 32 bits
abbrev pub joined_halves : ℕ → ℕ → ℕ
joined_halves low high = high * 2 ^ 32 + low

-- the number of labels of the set with this index, whose halves are stored before the labels
abbrev pub count_at : List LabelId → ℕ → ℕ
count_at sets place =
    joined_halves (slice_index_or sets place (record { 0 = 0 })).0
    (slice_index_or sets (place + 1) (record { 0 = 0 })).0

abbrev pub set_at : List LabelId → ℕ → List ℕ
set_at sets place = map (λ id. id.0) (slice_range sets (place + 2) (place + 2 + count_at sets place))

abbrev pub HasSetAt : List LabelId → ℕ → Type 0
HasSetAt sets place = place + 2 + count_at sets place ≤ length sets

-- the new list is the old one with more appended
abbrev pub IsGrown : {A : Type 0} → List A → List A → Type 0
IsGrown {A} old new = (more : List A) × (new ≡ old ++ more)

-- what the lines don't have themselves
pub record Store : Type 0 where
  pub sets : List LabelId
  pub chains : List PackedChain

abbrev pub store_of : List LabelId → List PackedChain → Store
store_of sets chains = record { sets = sets; chains = chains }

-- the second store is the first with more sets and chains appended
pub record IsMore (s s' : Store) : Type 0 where
  pub sets : IsGrown s.sets s'.sets
  pub chains : IsGrown s.chains s'.chains

abbrev pub no_chain : PackedChain
no_chain = record { cost = 0; side = record { 0 = 0 }; set = 0; path = record { value = 0; count = 0; few = lit≤ tt } }

abbrev pub chain_at : List PackedChain → ℕ → PackedChain
chain_at chains index = slice_index_or chains index no_chain

abbrev pub bits_in : Path → List Bool
bits_in path = path_to path.value path.count

abbrev pub chain_with : List ℕ → PackedChain → DueLine
chain_with set c = ChainLine c.cost (bits_in c.path) c.side.0 set

-- the line of this kind with this label, cost and index
abbrev pub of_kind : ℕ → LabelId → ℕ → ℕ → Unpacked
of_kind kind label cost index =
    if kind == 0 then Leaf label
    else (if kind == 1 then Single cost label
    else (if kind == 2 then Inner index
    else (if kind == 3 then SideChain index else Chain index)))

abbrev pub unpacked : Packed → Unpacked
unpacked p = of_kind (p.tail % 8) p.label (p.tail / 8) (joined_halves p.label.0 (p.tail / 8))

-- a packed line has room for this line
abbrev pub FitsPacked : Unpacked → Type 0
FitsPacked (Leaf id) = Unit {0}
FitsPacked (Single cost id) = cost < 2 ^ 29
FitsPacked (Inner index) = index < 2 ^ 61
FitsPacked (SideChain index) = index < 2 ^ 61
FitsPacked (Chain index) = index < 2 ^ 61

-- the cost before a set
abbrev pub cost_at : List LabelId → ℕ → ℕ
cost_at sets place = (slice_index_or sets place (record { 0 = 0 })).0

-- the line that an unpacked line represents
abbrev pub line_with : Store → Unpacked → DueLine
line_with s (Leaf id) = LeafLine id.0
line_with s (Single cost id) = InnerLine cost (id.0 ∷ [])
line_with s (Inner place) = InnerLine (cost_at s.sets place) (set_at s.sets (place + 1))
line_with s (SideChain index) = chain_with ((chain_at s.chains index).side.0 ∷ []) (chain_at s.chains index)
line_with s (Chain index) = chain_with (set_at s.sets (chain_at s.chains index).set) (chain_at s.chains index)

abbrev pub line_in : Store → Packed → DueLine
line_in s p = line_with s (unpacked p)

abbrev pub IsStored : Store → Unpacked → Type 0
IsStored s (Leaf id) = Unit {0}
IsStored s (Single cost id) = Unit {0}
IsStored s (Inner place) = HasSetAt s.sets (place + 1)
IsStored s (SideChain index) = index < length s.chains
IsStored s (Chain index) = (index < length s.chains) × HasSetAt s.sets (chain_at s.chains index).set

abbrev pub IsPacked : Store → Packed → Type 0
IsPacked s p = IsStored s (unpacked p)

pub record IsLine (s : Store) (p : Packed) (line : DueLine) : Type 0 where
  pub packed : IsPacked s p
  pub is : line_in s p ≡ line

-- the line of a node
abbrev pub line_of : Node → DueLine
line_of (LeafNode id) = LeafLine id.0
line_of (InnerNode claim) = InnerLine claim.cost (map (λ id. id.0) claim.set.now)
line_of (ChainNode claim path side) = ChainLine claim.cost (bits_in path.now) side.0 (map (λ id. id.0) claim.set.now)
