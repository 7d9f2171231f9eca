use Rattle.std.specs.Prelude.{◌≡◌, refl, ℕ, zero, suc, ◌≤◌, ◌⊎◌, Bool, List, [], ◌∷◌, ◌++◌, length}
use mathlib.Core.Logic.{inl, inr}
use Rattle.std.proofs.Common.{◌∙◌, ap}
use Rattle.std.proofs.lemmas.List.{append_assoc}
use Rattle.std.specs.Coded.{Coded, code_by, coded_bool, coded_list, coded_ℕ, coded×, coded⊎, le_prop}
use Rattle.pmap_model.specs.MapModel.{Label}
use Rattle.pmap_model.specs.MapText.{text_at}
use Rattle.pmap_cert.specs.CertificateText.{ChainLine, DueLine, HasRoomBelow, InnerLine, IsAscending-prop, LeafLine}
pub use Rattle.pmap_cert.specs.CertificateText.{HasChainForm, node_line_text, node_lines}
use Rattle.pmap_cert.specs.CertificateModel.{ChainNode, ClaimOf, InnerNode, IsPlain, LeafNode, Tree, TreeOf, map_tree}

-- a node with label numbers, as the code has it
abbrev pub Node : Type 0
Node = TreeOf ℕ

abbrev pub tree_of : List Label → Node → Tree
tree_of table node = map_tree (text_at table) node

-- like `HasChainForm`, for a node without chains
abbrev pub HasNumberForm : ℕ → Node → ℕ → Type 0
HasNumberForm count node room = HasChainForm count node room × IsPlain node

room-prop : (Fits : ℕ → Type 0) → ((room : ℕ) → IsProp (Fits room)) → (bits : List Bool) (room : ℕ)
    → IsProp (HasRoomBelow Fits bits room)
room-prop Fits prop [] room = prop room
room-prop Fits prop (bit ∷ bits) zero = λ x y. absurd x
room-prop Fits prop (bit ∷ bits) (suc room) = room-prop Fits prop bits room

pub HasChainForm-prop : (count : ℕ) (node : Node) (room : ℕ) → IsProp (HasChainForm count node room)
HasChainForm-prop count (LeafNode number) room = le_prop
HasChainForm-prop count (InnerNode claim lower upper) zero = λ x y. absurd x
HasChainForm-prop count (InnerNode claim lower upper) (suc room) =
    λ x y i. (
      le_prop x.0 y.0 i,
      IsAscending-prop count 0 claim.labels x.1 y.1 i,
      HasChainForm-prop count lower room x.2 y.2 i,
      HasChainForm-prop count upper room x.3 y.3 i,
    )
HasChainForm-prop count (ChainNode claim bits side end) room =
    λ x y i. (
      le_prop x.0 y.0 i,
      IsAscending-prop count 0 claim.labels x.1 y.1 i,
      le_prop x.2 y.2 i,
      le_prop x.3 y.3 i,
      room-prop (HasChainForm count end) (HasChainForm-prop count end) bits room x.4 y.4 i,
    )

-- the line of a node
abbrev pub first_line : Node → DueLine
first_line (LeafNode number) = LeafLine number
first_line (InnerNode claim lower upper) = InnerLine claim.cost claim.labels
first_line (ChainNode claim bits side end) = ChainLine claim.cost bits side claim.labels

-- the claim of this cost and this set
abbrev pub claiming : ℕ → List ℕ → ClaimOf ℕ
claiming cost set = record { cost = cost; labels = set }

-- the node of a line, with placeholders for the nodes below it
abbrev pub node_of : DueLine → Node
node_of (LeafLine number) = LeafNode number
node_of (InnerLine cost numbers) = InnerNode (claiming cost numbers) (LeafNode 0) (LeafNode 0)
node_of (ChainLine cost bits side numbers) = ChainNode (claiming cost numbers) bits side (LeafNode 0)

-- the lines are those of one node and of the nodes below it
pub record IsTree (lines : List DueLine) : Type 0 where
  pub node : Node
  pub is : lines ≡ node_lines node

-- an inner node's line takes the next two nodes as its halves, and a chain's line the next as its end
abbrev pub joined : ClaimOf ℕ → List Node → List Node
joined claim (lower ∷ upper ∷ nodes) = InnerNode claim lower upper ∷ nodes
joined claim nodes = nodes

abbrev pub chained : ClaimOf ℕ → List Bool → ℕ → List Node → List Node
chained claim bits side (end ∷ nodes) = ChainNode claim bits side end ∷ nodes
chained claim bits side [] = []

abbrev pub nodes_of : List DueLine → List Node
nodes_of [] = []
nodes_of (LeafLine number ∷ lines) = LeafNode number ∷ nodes_of lines
nodes_of (InnerLine cost numbers ∷ lines) = joined (claiming cost numbers) (nodes_of lines)
nodes_of (ChainLine cost bits side numbers ∷ lines) = chained (claiming cost numbers) bits side (nodes_of lines)

-- each line of an inner node is followed by the nodes of its halves, and each line of a chain by its end
abbrev pub AreWhole : List DueLine → Type 0
AreWhole [] = Unit {0}
AreWhole (LeafLine number ∷ lines) = AreWhole lines
AreWhole (InnerLine cost numbers ∷ lines) = (2 ≤ length (nodes_of lines)) × AreWhole lines
AreWhole (ChainLine cost bits side numbers ∷ lines) = (1 ≤ length (nodes_of lines)) × AreWhole lines

-- the first of the nodes, or a placeholder if there are no nodes
abbrev pub first_node : List Node → Node
first_node [] = LeafNode 0
first_node (node ∷ nodes) = node

-- the nodes from the next line on: after that of an inner node its halves, the lower one first, after that of a chain
-- its end, and then what followed the node
abbrev pub from_next_line : List Node → List Node
from_next_line [] = []
from_next_line (LeafNode number ∷ nodes) = nodes
from_next_line (InnerNode claim lower upper ∷ nodes) = lower ∷ upper ∷ nodes
from_next_line (ChainNode claim bits side end ∷ nodes) = end ∷ nodes

-- A node is coded as the list of its lines, and a line by its kind, bits and numbers.

abbrev pub split_line : DueLine → ℕ ⊎ ((ℕ × List ℕ) ⊎ ((ℕ × List Bool) × (ℕ × List ℕ)))
split_line (LeafLine number) = inl number
split_line (InnerLine cost numbers) = inr (inl (cost, numbers))
split_line (ChainLine cost bits side numbers) = inr (inr ((cost, bits), (side, numbers)))

abbrev pub join_line : ℕ ⊎ ((ℕ × List ℕ) ⊎ ((ℕ × List Bool) × (ℕ × List ℕ))) → DueLine
join_line (inl number) = LeafLine number
join_line (inr (inl p)) = InnerLine p.0 p.1
join_line (inr (inr p)) = ChainLine p.0.0 p.0.1 p.1.0 p.1.1

pub joined_line : (line : DueLine) → join_line (split_line line) ≡ line
joined_line (LeafLine number) = refl
joined_line (InnerLine cost numbers) = refl
joined_line (ChainLine cost bits side numbers) = refl

abbrev pub line_code : Coded DueLine
line_code =
    code_by (ℕ ⊎ ((ℕ × List ℕ) ⊎ ((ℕ × List Bool) × (ℕ × List ℕ))))
    (coded⊎ coded_ℕ (coded⊎ (coded× coded_ℕ (coded_list coded_ℕ))
    (coded× (coded× coded_ℕ (coded_list coded_bool)) (coded× coded_ℕ (coded_list coded_ℕ)))))
    split_line join_line joined_line

pub nodes-lines : (node : Node) (rest : List DueLine) → nodes_of (node_lines node ++ rest) ≡ node ∷ nodes_of rest
nodes-lines (LeafNode number) rest = refl
nodes-lines (InnerNode claim lower upper) rest =
    ap (λ (ls : List DueLine). joined claim (nodes_of ls)) (append_assoc (node_lines lower) (node_lines upper) rest)
    ∙ ap (joined claim) (nodes-lines lower (node_lines upper ++ rest)
    ∙ ap (λ (ns : List Node). lower ∷ ns) (nodes-lines upper rest))
nodes-lines (ChainNode claim bits side end) rest = ap (chained claim bits side) (nodes-lines end rest)

abbrev pub node_code : Coded Node
node_code = code_by (List DueLine) (coded_list line_code) (λ node. node_lines node ++ [])
    (λ lines. first_node (nodes_of lines)) (λ node. ap first_node (nodes-lines node []))
