use Rattle.std.specs.Prelude.{◌≡◌, ℕ, ◌+◌, ◌-◌, ◌^◌, ◌<◌, List, [], ◌∷◌, ◌++◌, length, nat_eq, reverse, slice_index_or}
use Rattle.prefix_keys.specs.Block.{width_of}
use Rattle.pmap_model.specs.Label.{IsLabelTable}
use Rattle.pmap_model.specs.MapModel.{MapModel}
use Rattle.pmap_stretches.specs.Stretches.{StretchesModel}
use Rattle.pmap_stretches.specs.declared.stretches.window.Window.{Window}
use Rattle.pmap_cert.specs.CertificateText.{IsAscending}
use Rattle.pmap_cert.specs.FormatReading.{DueLine, InnerLine, LeafLine}
use Rattle.pmap_cert.specs.CertificateModel.{ClaimOf, claim_of}
use Rattle.pmap_cert.specs.Compacting.{compacted}
use Rattle.pmap_cert.specs.Node.{Node, node_lines, node_of}
use Rattle.pmap_minimise.specs.Numbers.{IsExact, IsMapNode, IsSound}
use Rattle.pmap_cert.specs.Opened.{Opens}
use Rattle.pmap_minimise.specs.Spines.{IsWindowNode}

-- The lines of nodes as they are built, in reverse order: the line of a node follows those of the nodes below it, and
-- the higher half of a node comes before the lower one.

-- the claim of the line with this index
abbrev pub claim_at : List DueLine → ℕ → ClaimOf ℕ
claim_at lines number = claim_of (node_of (slice_index_or lines number (LeafLine 0)))

abbrev pub last_claim : List DueLine → ClaimOf ℕ
last_claim lines = claim_at lines (length lines - 1)

-- the sets of the last line and of this line ascend, and their costs can be added
pub record AreHalves (lines : List DueLine) (upper : ℕ) : Type 0 where
  pub inside : upper < length lines
  pub low : IsAscending (2 ^ 32) 0 (last_claim lines).labels
  pub high : IsAscending (2 ^ 32) 0 (claim_at lines upper).labels
  pub few : (last_claim lines).cost + (claim_at lines upper).cost + 1 < 2 ^ 32

-- the line of an inner node was added that claims the exact claim of these
pub record AddsExact (low high : ClaimOf ℕ) (old new : List DueLine) : Type 0 where
  pub claim : ClaimOf ℕ
  pub exact : IsExact low high claim
  pub lines_are : new ≡ old ++ InnerLine claim.cost claim.labels ∷ []

-- .. of those of the last line and of this line
abbrev pub AddsInner : ℕ → List DueLine → List DueLine → Type 0
AddsInner upper old new = AddsExact (last_claim old) (claim_at old upper) old new

-- the lines of the block's node, compacted, were added
pub record IsBuilt (s : StretchesModel) (a : Window) (old new : List DueLine) : Type 0 where
  pub node : Node
  pub made : IsWindowNode s a node
  pub opens : Opens (compacted nat_eq node) node
  pub lines_are : new ≡ old ++ reverse (node_lines (compacted nat_eq node))

-- `compact` is the map's node for the address space, compacted
pub record IsBuiltIn (m : MapModel) (compact : Node) : Type 0 where
  pub table : IsLabelTable m.table
  pub node : Node
  pub is : IsMapNode m 0 0 (width_of m.version) node
  pub sound : IsSound node (width_of m.version)
  pub compact_is : compact ≡ compacted nat_eq node
  pub opens : Opens compact node
