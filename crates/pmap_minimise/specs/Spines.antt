use Rattle.std.specs.Prelude.{◌≡◌, ◌≢◌, ℕ, zero, suc, ◌+◌, ◌-◌, ◌^◌, ◌<◌, ◌≤◌, ◌==◌, ◌⊎◌, List}
use Rattle.std.specs.Prelude.{Option, None, Some, IsSome, length, if◌then◌else◌, option_map}
use Rattle.std.specs.Option.{option_or}
use Rattle.prefix_keys.specs.Block.{width_of}
use Rattle.pmap_model.specs.Label.{IsLabelTable}
use Rattle.pmap_model.specs.MapModel.{MapModel}
use Rattle.pmap_model.specs.Settled.{IsMapOf}
use Rattle.pmap_stretches.specs.Windows.{divisions, AreHalvesOf, IsWindow, window_number}
use Rattle.pmap_stretches.specs.Stretches.{AreStretches, StretchesModel, label_at}
use Rattle.pmap_stretches.specs.declared.stretches.window.Window.{Window}
use Rattle.pmap_model.specs.declared.label.LabelId.{LabelId}
use Rattle.pmap_model.specs.declared.statement.Statement.{Statement}
use Rattle.pmap_cert.specs.CertificateText.{IsAscending}
use Rattle.pmap_cert.specs.CertificateModel.{ClaimOf, InnerNode, LeafNode, claim_of}
use Rattle.pmap_cert.specs.Compacting.{leaf_label}
use Rattle.pmap_cert.specs.Node.{Node}
use Rattle.pmap_minimise.specs.Numbers.{IsMapNode, IsSound}

-- The stretches are those of statements with a default, few enough that their leaves can be counted.
pub record AreCountable (s : StretchesModel) : Type 0 where
  pub statements : List Statement
  pub default : Option LabelId
  pub labelled : IsSome default
  pub stretches : AreStretches statements default s
  pub few : length statements ≤ 2000001

-- the map has statements with these stretches
pub record IsMapOn (s : StretchesModel) (m : MapModel) : Type 0 where
  pub statements : List Statement
  pub default : Option LabelId
  pub stretches : AreStretches statements default s
  pub is : IsMapOf (width_of s.version) statements default m
  pub table : IsLabelTable m.table

-- The stretches are those of statements with a default, few enough in the window's block that its leaves can be
-- counted.
pub record AreFew (s : StretchesModel) (a : Window) : Type 0 where
  pub statements : List Statement
  pub default : Option LabelId
  pub labelled : IsSome default
  pub stretches : AreStretches statements default s
  pub few : divisions s a statements + 1 < 2 ^ 32

-- the stretches are at the window's ends, and its leaves can be counted
pub record IsCounted (s : StretchesModel) (a : Window) : Type 0 where
  pub window : IsWindow s a
  pub few : AreFew s a

-- the halves of a block with addresses of two stretches or more
pub record AreCountedHalves (s : StretchesModel) (a low high : Window) : Type 0 where
  pub divided : a.from < a.to
  pub halves : AreHalvesOf s a low high
  pub low_counted : IsCounted s low
  pub high_counted : IsCounted s high

-- the number of the label of a block in one stretch, or `None` for a block with addresses of two stretches or more
abbrev pub own_label : StretchesModel → Window → Option ℕ
own_label s a = if a.from == a.to then option_map (λ id. id.0) (label_at s a.from) else None

-- no half of a block has a label alone, or both have, so that a spine from the block has at most one step
abbrev pub HasNoLongSpine : StretchesModel → Window → Window → Type 0
HasNoLongSpine s low high = (option_or (own_label s low) (own_label s high) ≡ None)
    ⊎ ((low.from ≡ low.to) × (high.from ≡ high.to))

abbrev pub HasLabel : StretchesModel → ℕ → ℕ → Type 0
HasLabel s label i = option_map (λ id. id.0) (label_at s i) ≡ Some label

-- The step of a spine: to the higher half if the lower one has the side label alone, otherwise to the lower one if the
-- higher one has it alone.
abbrev pub IsChoice : StretchesModel → ℕ → Window → Window → Window → Type 0
IsChoice s side low high chosen =
    ((chosen ≡ high) × (own_label s low ≡ Some side))
    ⊎ ((chosen ≡ low) × (own_label s low ≢ Some side) × (own_label s high ≡ Some side))

pub record IsStepInto (s : StretchesModel) (side : ℕ) (a chosen : Window) : Type 0 where
  pub low : Window
  pub high : Window
  pub halves : AreCountedHalves s a low high
  pub choice : IsChoice s side low high chosen

-- a spine of `count` steps leads from the block to the end
abbrev pub AreSteps : StretchesModel → ℕ → ℕ → Window → Window → Type 0
AreSteps s side zero a end = end ≡ a
AreSteps s side (suc count) a end = (chosen : Window) × IsStepInto s side a chosen × AreSteps s side count chosen end

pub record HasNoSide (s : StretchesModel) (side : ℕ) (a : Window) : Type 0 where
  pub low : Window
  pub high : Window
  pub halves : AreCountedHalves s a low high
  pub low_other : own_label s low ≢ Some side
  pub high_other : own_label s high ≢ Some side

abbrev pub IsStop : StretchesModel → ℕ → Window → Type 0
IsStop s side a = (a.from ≡ a.to) ⊎ HasNoSide s side a

-- the whole spine of the side label leads from the block to the end
pub record IsSpineTo (s : StretchesModel) (side : ℕ) (a end : Window) : Type 0 where
  pub count : ℕ
  pub steps : AreSteps s side count a end
  pub stop : IsStop s side end
  pub counted : IsCounted s end
  pub len : end.len ≡ a.len + count

-- the node is an inner one, and a half that is a leaf has the label of this window
pub record HasLabelledHalves (s : StretchesModel) (low high : Window) (node : Node) : Type 0 where
  pub claim : ClaimOf ℕ
  pub lower : Node
  pub upper : Node
  pub node_is : node ≡ InnerNode claim lower upper
  pub low_label : leaf_label lower ≡ own_label s low
  pub high_label : leaf_label upper ≡ own_label s high

-- The node represents the block in each map on the stretches. It costs at most as often as the block is divided.
pub record IsWindowNode (s : StretchesModel) (a : Window) (node : Node) : Type 0 where
  pub each : (m : MapModel) → IsMapOn s m → IsMapNode m a.len (window_number s a) (width_of s.version - a.len) node
  pub few : (ss : List Statement) (default : Option LabelId) → AreStretches ss default s
      → (claim_of node).cost ≤ divisions s a ss
  pub sound : IsSound node (width_of s.version - a.len)
  pub ascending : IsAscending (2 ^ 32) 0 (claim_of node).labels
  pub own : leaf_label node ≡ own_label s a
  pub single : a.from ≡ a.to → (n : ℕ) × (node ≡ LeafNode n)
  pub halves : (low high : Window) → AreCountedHalves s a low high → HasLabelledHalves s low high node
