use Rattle.std.specs.Prelude.{◌≡◌, ℕ, zero, suc, ◌+◌, ◌<◌, ◌≤◌, ◌==◌, Bool, List}
use Rattle.std.specs.Prelude.{[], ◌∷◌, ◌++◌, if◌then◌else◌, length, map, nat_lt}
use Rattle.std.specs.List.{list_any}
use Rattle.pmap_model.specs.declared.label.LabelId.{LabelId}
use Rattle.pmap_cert.specs.CertificateText.{InnerLine, LeafLine, node_line_text, text_of_lines}
use Rattle.pmap_cert.specs.CertificateModel.{ChainNode, ClaimOf, InnerNode, LeafNode, claim_of}
use Rattle.pmap_cert.specs.Node.{Node, first_node, node_lines}
use Rattle.pmap_cert.specs.Paths.{digit, path_to}

-- A compact node and the node with each of its chains opened: a chain turns into the inner nodes of its spine, each
-- with its exact claim, and the leaves beside them.

abbrev pub numbers_of : List LabelId → List ℕ
numbers_of ids = map (λ id. id.0) ids

abbrev pub has_number : List ℕ → ℕ → Bool
has_number ns n = list_any (λ m. n == m) ns

-- the set with one more number, in ascending order
abbrev pub with_number : ℕ → List ℕ → List ℕ
with_number n [] = n ∷ []
with_number n (m ∷ ms) = if nat_lt n m then n ∷ m ∷ ms else m ∷ with_number n ms

-- The claim of a node of a spine that has `more` nodes of the spine below it, by the side label and the claim of the
-- spine's end.
abbrev pub set_above : ℕ → List ℕ → ℕ → List ℕ
set_above side set zero = if has_number set side then side ∷ [] else with_number side set
set_above side set (suc more) = side ∷ []

abbrev pub cost_above : ℕ → ClaimOf ℕ → ℕ
cost_above side end = if has_number end.labels side then end.cost else end.cost + 1

abbrev pub claim_above : ℕ → ClaimOf ℕ → ℕ → ClaimOf ℕ
claim_above side end more = record { cost = cost_above side end; labels = set_above side end.labels more }

-- an inner node over the half that a spine chooses, the lower one if the digit is 0, and the side block's leaf
abbrev pub node_over : ℕ → ClaimOf ℕ → Node → Node → Node
node_over zero claim path side = InnerNode claim path side
node_over (suc digit) claim path side = InnerNode claim side path

-- the node from which a spine of `bits` bits leads to the node `end`, whose block has the number `value`
abbrev pub path_node : ℕ → ℕ → ℕ → Node → Node
path_node side value zero end = end
path_node side value (suc bits) end =
    node_over (digit value bits) (claim_above side (claim_of end) bits) (path_node side value bits end) (LeafNode side)

pub record OpensInner (claim : ClaimOf ℕ) (OpensLower OpensUpper : Node → Type 0) (node : Node) : Type 0 where
  pub lower : Node
  pub upper : Node
  pub low : OpensLower lower
  pub high : OpensUpper upper
  pub node_is : node ≡ InnerNode claim lower upper

-- the chain has two bits or more, and its claim is the exact one of the spine's first node
pub record OpensChain (claim : ClaimOf ℕ) (bits : List Bool) (side : ℕ) (OpensEnd : Node → Type 0)
    (node : Node) : Type 0 where
  pub value : ℕ
  pub count : ℕ
  pub end : Node
  pub below : OpensEnd end
  pub claim_is : claim ≡ claim_above side (claim_of end) 1
  pub bits_are : bits ≡ path_to value count
  pub long : 2 ≤ count
  pub few : count ≤ 128
  pub node_is : node ≡ path_node side value count end

-- opening each chain of the first node gives the second one
abbrev pub Opens : Node → Node → Type 0
Opens (LeafNode label) node = node ≡ LeafNode label
Opens (InnerNode claim lower upper) node = OpensInner claim (Opens lower) (Opens upper) node
Opens (ChainNode claim bits side end) node = OpensChain claim bits side (Opens end) node

pub record IsOpenedAt (nodes : List Node) : Type 0 where
  pub some : 0 < length nodes
  pub node : Node
  pub opens : Opens (first_node nodes) node

abbrev pub node_text : Node → List ℕ
node_text node = text_of_lines (map node_line_text (node_lines node))

-- the text of the side blocks after a chain's end, for the last `bits` nodes of the chain
abbrev pub text_up : ℕ → ℕ → ℕ → List ℕ
text_up side value zero = []
text_up side value (suc bits) =
    text_up side value bits ++ (if digit value bits == 0 then node_line_text (LeafLine side) ++ 10 ∷ [] else [])

-- the text of the last `bits` nodes of a chain, and of the side blocks before the chain's end, by the set of the end
abbrev pub text_down : ℕ → ℕ → List ℕ → ℕ → ℕ → List ℕ
text_down cost side set value zero = []
text_down cost side set value (suc bits) =
    ((node_line_text (InnerLine cost (set_above side set bits)) ++ 10 ∷ [])
    ++ (if digit value bits == 1 then node_line_text (LeafLine side) ++ 10 ∷ [] else []))
    ++ text_down cost side set value bits
