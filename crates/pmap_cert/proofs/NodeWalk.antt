-- The nodes of a list of lines.
use Rattle.std.proofs.Common.{◌≡◌, Bool, ℕ, zero, suc, ◌<◌, ◌≤◌, ◌∙◌, List, [], ◌∷◌, ◌++◌, Option, Some, None, length, drop, get_or, refl, sym, ap, subst, arith}
use Rattle.std.proofs.lemmas.List.{append-nil, append_assoc}
use Rattle.pmap_cert.specs.FormatReading.{ChainLine, DueLine, InnerLine, LeafLine}
use Rattle.pmap_cert.specs.CertificateModel.{ChainNode, ClaimOf, InnerNode, LeafNode}
use Rattle.pmap_cert.specs.Node.{AreWhole, IsTree, Node, chained, claiming, first_line, first_node, from_next_line, joined, node_lines, nodes-lines, nodes_of}

-- the bits and the side label of a chain's line
abbrev pub bits_of : DueLine → List Bool
bits_of (ChainLine cost bits side numbers) = bits
bits_of _ = []

abbrev pub side_of : DueLine → Option ℕ
side_of (ChainLine cost bits side numbers) = Some side
side_of _ = None

pub whole-lines : (node : Node) (rest : List DueLine) → AreWhole rest → AreWhole (node_lines node ++ rest)
whole-lines (LeafNode number) rest whole = whole
whole-lines (InnerNode claim lower upper) rest whole =
    let nodes : nodes_of (node_lines lower ++ (node_lines upper ++ rest)) ≡ lower ∷ upper ∷ nodes_of rest =
    nodes-lines lower (node_lines upper ++ rest) ∙ ap (λ (ns : List Node). lower ∷ ns) (nodes-lines upper rest) in
    subst (λ (ls : List DueLine). (2 ≤ length (nodes_of ls)) × AreWhole ls) (sym (append_assoc (node_lines lower) (node_lines upper) rest))
    (subst (λ (ns : List Node). 2 ≤ length ns) (sym nodes) (omega arith), whole-lines lower (node_lines upper ++ rest) (whole-lines upper rest whole))
whole-lines (ChainNode claim bits side end) rest whole =
    (subst (λ (ns : List Node). 1 ≤ length ns) (sym (nodes-lines end rest)) (omega arith), whole-lines end rest whole)

-- the lines of a tree have one node
pub root-of : (lines : List DueLine) (node : Node) → lines ≡ node_lines node → nodes_of lines ≡ node ∷ []
root-of lines node is = ap nodes_of (is ∙ sym (append-nil (node_lines node))) ∙ nodes-lines node []

pub tree-whole : (lines : List DueLine) (node : Node) → lines ≡ node_lines node → AreWhole lines
tree-whole lines node is = subst AreWhole (sym (is ∙ sym (append-nil (node_lines node)))) (whole-lines node [] tt)

pub tree-lines : (lines : List DueLine) (node : Node) → IsTree lines → first_node (nodes_of lines) ≡ node → lines ≡ node_lines node
tree-lines lines node tree is = tree.is ∙ ap node_lines (sym (ap first_node (root-of lines tree.node tree.is)) ∙ is)

-- the nodes from a line on are whole, and so are those from the next line on
pub whole-next : (lines : List DueLine) (k : ℕ) → AreWhole (drop k lines) → AreWhole (drop (suc k) lines)
whole-next [] zero whole = whole
whole-next [] (suc k) whole = whole
whole-next (LeafLine number ∷ lines) zero whole = whole
whole-next (InnerLine cost numbers ∷ lines) zero whole = whole.1
whole-next (ChainLine cost bits side numbers ∷ lines) zero whole = whole.1
whole-next (line ∷ lines) (suc k) whole = whole-next lines k whole

halves : (claim : ClaimOf ℕ) (nodes : List Node) → 2 ≤ length nodes → nodes ≡ from_next_line (joined claim nodes)
halves claim [] two = absurd (omega arith)
halves claim (node ∷ []) two = absurd (omega arith)
halves claim (lower ∷ upper ∷ nodes) two = refl

end-next : (claim : ClaimOf ℕ) (bits : List Bool) (side : ℕ) (nodes : List Node) → 1 ≤ length nodes → nodes ≡ from_next_line (chained claim bits side nodes)
end-next claim bits side [] some = absurd (omega arith)
end-next claim bits side (end ∷ nodes) some = refl

pub nodes-next : (lines : List DueLine) (k : ℕ) → AreWhole (drop k lines) → nodes_of (drop (suc k) lines) ≡ from_next_line (nodes_of (drop k lines))
nodes-next [] zero whole = refl
nodes-next [] (suc k) whole = refl
nodes-next (LeafLine number ∷ lines) zero whole = refl
nodes-next (InnerLine cost numbers ∷ lines) zero whole = halves (claiming cost numbers) (nodes_of lines) whole.0
nodes-next (ChainLine cost bits side numbers ∷ lines) zero whole = end-next (claiming cost numbers) bits side (nodes_of lines) whole.0
nodes-next (line ∷ lines) (suc k) whole = nodes-next lines k whole

inner-line : (claim : ClaimOf ℕ) (nodes : List Node) → 2 ≤ length nodes → InnerLine claim.cost claim.labels ≡ first_line (first_node (joined claim nodes))
inner-line claim [] two = absurd (omega arith)
inner-line claim (node ∷ []) two = absurd (omega arith)
inner-line claim (lower ∷ upper ∷ nodes) two = refl

chain-line : (claim : ClaimOf ℕ) (bits : List Bool) (side : ℕ) (nodes : List Node) → 1 ≤ length nodes
    → ChainLine claim.cost bits side claim.labels ≡ first_line (first_node (chained claim bits side nodes))
chain-line claim bits side [] some = absurd (omega arith)
chain-line claim bits side (end ∷ nodes) some = refl

pub within : (lines : List DueLine) (k : ℕ) → 0 < length (nodes_of (drop k lines)) → k < length lines
within [] zero some = absurd (omega arith)
within [] (suc k) some = absurd (omega arith)
within (line ∷ lines) zero some = omega arith
within (line ∷ lines) (suc k) some = let less = within lines k some in omega arith

pub line-here : (lines : List DueLine) (k : ℕ) (z : DueLine) → 0 < length (nodes_of (drop k lines)) → AreWhole (drop k lines)
    → get_or lines k z ≡ first_line (first_node (nodes_of (drop k lines)))
line-here [] zero z some whole = absurd (omega arith)
line-here [] (suc k) z some whole = absurd (omega arith)
line-here (LeafLine number ∷ lines) zero z some whole = refl
line-here (InnerLine cost numbers ∷ lines) zero z some whole = inner-line (claiming cost numbers) (nodes_of lines) whole.0
line-here (ChainLine cost bits side numbers ∷ lines) zero z some whole = chain-line (claiming cost numbers) bits side (nodes_of lines) whole.0
line-here (line ∷ lines) (suc k) z some whole = line-here lines k z some whole
