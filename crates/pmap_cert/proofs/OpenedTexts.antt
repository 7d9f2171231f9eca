-- The text of a certificate's nodes, with each chain opened.
use Rattle.std.proofs.Common.{◌≡◌, ℕ, zero, suc, ◌<◌, ◌≤◌, ◌==◌, ◌∙◌, ◌+◌, Bool, false, true, cond, nat_lt, not, take, List, [], ◌∷◌, ◌++◌, drop, get_or, length, map, refl, subst, sym, ap, arith}
use Rattle.std.proofs.lemmas.List.{append-nil, append_assoc, map-append}
use Rattle.std.proofs.lemmas.Option.{same_Some}
use Rattle.std.specs.List.{position_or_len}
use Rattle.pmap_model.specs.declared.label.LabelId.{LabelId}
use Rattle.pmap_cert.proofs.Paths.{path-length}
use Rattle.pmap_cert.proofs.Written.{text_of_lines-append}
use Rattle.pmap_cert.specs.CertificateText.{InnerLine, LeafLine, node_line_text, text_of_lines}
use Rattle.pmap_cert.specs.FormatReading.{ChainLine, DueLine}
use Rattle.pmap_cert.proofs.NodeWalk.{bits_of, side_of}
use Rattle.pmap_cert.specs.CertificateModel.{ChainNode, ClaimOf, InnerNode, LeafNode, claim_of}
use Rattle.pmap_cert.specs.Node.{Node, claiming, first_line, first_node, from_next_line, node_lines, node_of}
use Rattle.pmap_cert.specs.Paths.{digit, path_to}
use Rattle.pmap_cert.specs.Opened.{Opens, claim_above, cost_above, node_over, node_text, numbers_of, path_node, set_above, text_down, text_up, with_number}

-- the claim of the node of a spine with `bits` bits below it
module _ (side : ℕ) (end : Node) where
  abbrev pub claim_over : ℕ → ClaimOf ℕ
  claim_over zero = claim_of end
  claim_over (suc bits) = claim_above side (claim_of end) bits

  over-claim : (d : ℕ) (claim : ClaimOf ℕ) (x y : Node) → claim_of (node_over d claim x y) ≡ claim
  over-claim zero claim x y = refl
  over-claim (suc d) claim x y = refl

  pub path-claim : (value bits : ℕ) → claim_of (path_node side value bits end) ≡ claim_over bits
  path-claim value zero = refl
  path-claim value (suc bits) = over-claim (digit value bits) (claim_above side (claim_of end) bits) (path_node side value bits end) (LeafNode side)

-- a compact node has the claim of the node that it opens to
pub opens-claim : (compact node : Node) → Opens compact node → claim_of compact ≡ claim_of node
opens-claim (LeafNode label) node is = sym (ap claim_of is)
opens-claim (InnerNode claim lower upper) node is = sym (ap claim_of is.node_is)
opens-claim (ChainNode claim bits side end) node is = is.claim_is ∙ by is.count is.long ∙ sym (ap claim_of is.node_is)
  where
    by : (count : ℕ) → 2 ≤ count → claim_above side (claim_of is.end) 1 ≡ claim_of (path_node side is.value count is.end)
    by zero long = absurd (omega arith)
    by (suc zero) long = absurd (omega arith)
    by (suc (suc count)) long = sym (path-claim side is.end is.value (suc (suc count)))

-- a line with its end
abbrev ended : List ℕ → List ℕ
ended text = text ++ 10 ∷ []

pub lines-text : (a b : List DueLine) → text_of_lines (map node_line_text (a ++ b)) ≡ text_of_lines (map node_line_text a) ++ text_of_lines (map node_line_text b)
lines-text a b = ap text_of_lines (map-append node_line_text a b) ∙ text_of_lines-append (map node_line_text a) (map node_line_text b)

leaf-text : (n : ℕ) → node_text (LeafNode n) ≡ ended (node_line_text (LeafLine n))
leaf-text n = append-nil (ended (node_line_text (LeafLine n)))

inner-text : (claim : ClaimOf ℕ) (lower upper : Node) → node_text (InnerNode claim lower upper) ≡ ended (node_line_text (InnerLine claim.cost claim.labels)) ++ (node_text lower ++ node_text upper)
inner-text claim lower upper = ap (λ (t : List ℕ). ended (node_line_text (InnerLine claim.cost claim.labels)) ++ t) (lines-text (node_lines lower) (node_lines upper))

-- The lines of a spine's node, `D` of the nodes below it down to the end, those of the end, `E`, and `U` of the side blocks
-- after it are the node's text if the last three are that of the half that the spine chooses. `F` is the side block's line.
lower-first : (L D E U F : List ℕ) → (((L ++ []) ++ D) ++ E) ++ (U ++ F) ≡ L ++ (((D ++ E) ++ U) ++ F)
lower-first L D E U F = simp (append_assoc, append-nil)

upper-first : (L D E U F : List ℕ) → (((L ++ F) ++ D) ++ E) ++ (U ++ []) ≡ L ++ (F ++ ((D ++ E) ++ U))
upper-first L D E U F = simp (append_assoc, append-nil)

over : (d side : ℕ) (claim : ClaimOf ℕ) (path : Node) (D E U : List ℕ) → d < 2 → (D ++ E) ++ U ≡ node_text path
    → (((ended (node_line_text (InnerLine claim.cost claim.labels)) ++ cond (d == 1) (ended (node_line_text (LeafLine side))) []) ++ D) ++ E) ++ (U ++ cond (d == 0) (ended (node_line_text (LeafLine side))) [])
    ≡ node_text (node_over d claim path (LeafNode side))
over zero side claim path D E U small below =
    let line : List ℕ = ended (node_line_text (InnerLine claim.cost claim.labels)) in
    lower-first line D E U (ended (node_line_text (LeafLine side))) ∙ (λ i. line ++ (below i ++ sym (leaf-text side) i)) ∙ sym (inner-text claim path (LeafNode side))
over (suc zero) side claim path D E U small below =
    let line : List ℕ = ended (node_line_text (InnerLine claim.cost claim.labels)) in
    upper-first line D E U (ended (node_line_text (LeafLine side))) ∙ (λ i. line ++ (sym (leaf-text side) i ++ below i)) ∙ sym (inner-text claim (LeafNode side) path)
over (suc (suc d)) side claim path D E U small below = absurd (omega arith)

-- the lines of a chain's nodes down to its end, of the end, and of the side blocks after it are the text of the spine
module _ (cost side : ℕ) (set : List ℕ) (value : ℕ) (end : Node) (set_is : set ≡ (claim_of end).labels) (cost_is : cost ≡ cost_above side (claim_of end)) where
  pub down-text : (bits : ℕ) → (text_down cost side set value bits ++ node_text end) ++ text_up side value bits ≡ node_text (path_node side value bits end)
  down-text zero = append-nil (node_text end)
  down-text (suc bits) =
      over (digit value bits) side (claiming cost (set_above side set bits)) (path_node side value bits end) (text_down cost side set value bits) (node_text end) (text_up side value bits) (omega arith) (down-text bits)
      ∙ (λ i. node_text (node_over (digit value bits) (claiming (cost_is i) (set_above side (set_is i) bits)) (path_node side value bits end) (LeafNode side)))

-- equal bits lead to the end from the same node
same-digit : (d e : ℕ) → d < 2 → e < 2 → (d == 1) ≡ (e == 1) → d ≡ e
same-digit zero zero small less same = refl
same-digit (suc zero) (suc zero) small less same = refl
same-digit zero (suc zero) small less same = absurd cc
same-digit (suc zero) zero small less same = absurd cc
same-digit (suc (suc d)) e small less same = absurd (omega arith)
same-digit d (suc (suc e)) small less same = absurd (omega arith)

same-path : (side value other : ℕ) (end : Node) (count many : ℕ) → path_to value count ≡ path_to other many → path_node side value count end ≡ path_node side other many end
same-path side value other end zero zero same = refl
same-path side value other end zero (suc many) same = absurd (omega (arith, ap length same))
same-path side value other end (suc count) zero same = absurd (omega (arith, ap length same))
same-path side value other end (suc count) (suc many) same =
    let rest : path_to value count ≡ path_to other many = ap (drop 1) same in
    let counts : count ≡ many = omega (arith, path-length value count, path-length other many, ap length rest) in
    let digits = same-digit (digit value count) (digit other many) (omega arith) (omega arith) (ap (λ (l : List Bool). get_or l 0 false) same) in
    λ i. node_over (digits i) (claim_above side (claim_of end) (counts i)) (same-path side value other end count many rest i) (LeafNode side)

-- what holds of the text of the node from which a chain's bits lead to its end holds of the text of the chain
pub chain-added : (cost value count side : ℕ) (set : List ℕ) (nodes : List Node) (Holds : List ℕ → Type 0) → 0 < length nodes → ChainLine cost (path_to value count) side set ≡ first_line (first_node nodes)
    → ((end : Node) → Opens (first_node (from_next_line nodes)) end → cost ≡ cost_above side (claim_of end) → Holds (node_text (path_node side value count end)))
    → (node : Node) → Opens (first_node nodes) node → Holds (node_text node)
chain-added cost value count side set [] Holds some line added node opens = absurd (omega arith)
chain-added cost value count side set (LeafNode n ∷ rest) Holds some line added node opens = absurd cc
chain-added cost value count side set (InnerNode claimed lower upper ∷ rest) Holds some line added node opens = absurd cc
chain-added cost value count side set (ChainNode claimed path beside end ∷ rest) Holds some line added node opens =
    let same : beside ≡ side = sym (same_Some side beside (ap side_of line)) in
    subst (λ (k : Node). Holds (node_text k))
    (same-path side value opens.value opens.end count opens.count (ap bits_of line ∙ opens.bits_are)
    ∙ ap (λ (n : ℕ). path_node n opens.value opens.count opens.end) (sym same) ∙ sym opens.node_is)
    (added opens.end opens.below (ap (λ l. (claim_of (node_of l)).cost) line ∙ ap (λ (c : ClaimOf ℕ). c.cost) opens.claim_is ∙ ap (λ (n : ℕ). cost_above n (claim_of opens.end)) same))

-- a set with one more number, by the first label that comes after it
pub with-at : (side : ℕ) (ids : List LabelId) → with_number side (numbers_of ids)
    ≡ numbers_of (take (position_or_len (λ id. nat_lt side id.0) ids) ids) ++ side ∷ numbers_of (drop (position_or_len (λ id. nat_lt side id.0) ids) ids)
with-at side [] = refl
with-at side (id ∷ ids) = by (nat_lt side id.0) (with-at side ids)
  where
    place : ℕ
    place = position_or_len (λ id. nat_lt side id.0) ids

    by : (b : Bool) → with_number side (numbers_of ids) ≡ numbers_of (take place ids) ++ side ∷ numbers_of (drop place ids) → cond b (side ∷ id.0 ∷ numbers_of ids) (id.0 ∷ with_number side (numbers_of ids))
        ≡ numbers_of (take (cond (not b) (1 + place) 0) (id ∷ ids)) ++ side ∷ numbers_of (drop (cond (not b) (1 + place) 0) (id ∷ ids))
    by true rest = refl
    by false rest = let next : 1 + place ≡ suc place = omega arith in rw next (ap (λ (ns : List ℕ). id.0 ∷ ns) rest)
