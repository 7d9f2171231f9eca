-- The lines at which nodes without chains begin and end.
use Rattle.std.proofs.Common.{◌≡◌, ℕ, zero, suc, ◌+◌, ◌<◌, ◌≤◌, ◌∙◌, List, [], ◌∷◌, ◌++◌, All, Option, Some, None, IsSome, drop, get_or, length, nat_eq, refl, sym, ap, subst, arith, slice_index}
use Rattle.std.proofs.lemmas.Option.{none-some}
use Rattle.std.proofs.lemmas.List.Elements.{All-append, All-cons, All-head, All-nil, All-tail}
use Rattle.pmap_cert.specs.FormatReading.{ChainLine, DueLine, InnerLine, LeafLine}
use Rattle.pmap_cert.specs.CertificateModel.{ChainNode, ClaimOf, InnerNode, IsPlain, LeafNode}
use Rattle.pmap_cert.specs.Compacting.{leaf_label, spine_bits, spine_end}
use Rattle.pmap_cert.specs.Node.{AreWhole, HasChainForm, Node, claiming, first_line, first_node, from_next_line, joined, node_lines, nodes_of, node_of}
use Rattle.pmap_cert.specs.Inner.{AreEndsFrom, ArePlain, EndsAt, HasHalves, HasPlace, IsShallow, node_from}
use Rattle.pmap_cert.proofs.ChainWords.{left-room}
use Rattle.pmap_cert.proofs.CompactForms.{form-spine}
use Rattle.pmap_cert.proofs.NodeWalk.{line-here, nodes-next, root-of, tree-whole, whole-next, within}

-- the line isn't that of a chain
abbrev IsPlainLine : DueLine → Type 0
IsPlainLine line = IsPlain (node_of line)

pub plain-lines : (node : Node) → IsPlain node → All IsPlainLine (node_lines node)
plain-lines (LeafNode number) plain = All-cons IsPlainLine (LeafLine number) [] tt (All-nil IsPlainLine)
plain-lines (InnerNode claim lower upper) plain =
    All-cons IsPlainLine (InnerLine claim.cost claim.labels) (node_lines lower ++ node_lines upper) (tt, tt)
    (All-append IsPlainLine (node_lines lower) (node_lines upper) (plain-lines lower plain.0) (plain-lines upper plain.1))
plain-lines (ChainNode claim bits side end) plain = absurd plain

pub whole-drop : (lines : List DueLine) (k : ℕ) → AreWhole lines → AreWhole (drop k lines)
whole-drop lines zero whole = whole
whole-drop lines (suc k) whole = whole-next lines k (whole-drop lines k whole)

-- The node that begins at a line: a leaf followed by the rest, or an inner node whose line is followed by its halves.
pub data Here (lines : List DueLine) (k : ℕ) : Type 0 where
  leaf-here : (number : ℕ) (rest : List Node) (is : nodes_of (drop k lines) ≡ LeafNode number ∷ rest) (next : nodes_of (drop (suc k) lines) ≡ rest) → Here lines k
  inner-here : (claim : ClaimOf ℕ) (lower upper : Node) (rest : List Node) (is : nodes_of (drop k lines) ≡ InnerNode claim lower upper ∷ rest)
      (next : nodes_of (drop (suc k) lines) ≡ lower ∷ upper ∷ rest) → Here lines k

inner-by : (lines : List DueLine) (cost : ℕ) (set : List ℕ) (nodes : List Node) → nodes_of lines ≡ nodes → 2 ≤ length nodes → Here (InnerLine cost set ∷ lines) zero
inner-by lines cost set [] e two = absurd (omega arith)
inner-by lines cost set (node ∷ []) e two = absurd (omega arith)
inner-by lines cost set (lower ∷ upper ∷ rest) e two = inner-here (claiming cost set) lower upper rest (ap (joined (claiming cost set)) e) e

below-here : (line : DueLine) (lines : List DueLine) (k : ℕ) → Here lines k → Here (line ∷ lines) (suc k)
below-here line lines k (leaf-here number rest is next) = leaf-here number rest is next
below-here line lines k (inner-here claim lower upper rest is next) = inner-here claim lower upper rest is next

here-by : (lines : List DueLine) (k : ℕ) → AreWhole lines → All IsPlainLine lines → k < length lines → Here lines k
here-by [] k whole plain inside = absurd (omega arith)
here-by (LeafLine number ∷ lines) zero whole plain inside = leaf-here number (nodes_of lines) refl refl
here-by (InnerLine cost set ∷ lines) zero whole plain inside = inner-by lines cost set (nodes_of lines) refl whole.0
here-by (ChainLine cost bits side numbers ∷ lines) zero whole plain inside =
    absurd (All-head IsPlainLine (ChainLine cost bits side numbers) lines plain)
here-by (line ∷ lines) (suc k) whole plain inside =
    below-here line lines k
    (here-by lines k (whole-next (line ∷ lines) zero whole) (All-tail IsPlainLine line lines plain) (omega arith))

pub here : (lines : List DueLine) (k : ℕ) → ArePlain lines → k < length lines → Here lines k
here lines k are inside = here-by lines k are.whole are.plain inside

some-here : (lines : List DueLine) (k : ℕ) → Here lines k → 0 < length (nodes_of (drop k lines))
some-here lines k (leaf-here number rest is next) = let e = ap length is in omega arith
some-here lines k (inner-here claim lower upper rest is next) = let e = ap length is in omega arith

-- the line with a number is that of the node there
pub line-of : (lines : List DueLine) (k : ℕ) → ArePlain lines → k < length lines → get_or lines k (LeafLine 0) ≡ first_line (node_from lines k)
line-of lines k are inside =
    line-here lines k (LeafLine 0) (some-here lines k (here lines k are inside)) (whole-drop lines k are.whole)

inside-is : (lines : List DueLine) (k : ℕ) (node : Node) (rest : List Node) → nodes_of (drop k lines) ≡ node ∷ rest → k < length lines
inside-is lines k node rest is = let e = ap length is in within lines k (omega arith)

none-of-leaf : (number : ℕ) → ◌≡◌ {A = Option ℕ} (Some number) None → ⊥
none-of-leaf number e = none-some number (sym e)

pub ends-later : (lines : List DueLine) (all : List ℕ) (k n : ℕ) → AreEndsFrom lines all k → k ≤ n → AreEndsFrom lines all n
ends-later lines all k n ends le = record { count = ends.count; each = λ j later inside. ends.each j (omega arith) inside }

-- a node without a label is an inner node, whose halves are at the next line and at the end of the lower half
pub halves-of : (lines : List DueLine) (all : List ℕ) (k : ℕ) → HasPlace lines all k → leaf_label (node_from lines k) ≡ None
    → HasHalves lines all k (k + 1) (slice_index all (k + 1))
halves-of lines all k place none = by (here lines k place.plain place.within)
  where
    one : suc k ≡ k + 1
    one = omega arith

    by : Here lines k → HasHalves lines all k (k + 1) (slice_index all (k + 1))
    by (leaf-here number rest is next) = absurd (none-of-leaf number (sym (ap leaf_label (ap first_node is)) ∙ none))
    by (inner-here claim lower upper rest is next_suc) =
        let e : ℕ = slice_index all (k + 1) in
        let next : nodes_of (drop (k + 1) lines) ≡ lower ∷ upper ∷ rest = ap (λ (n : ℕ). nodes_of (drop n lines)) (sym one) ∙ next_suc in
        let inside = inside-is lines (k + 1) lower (upper ∷ rest) next in
        let ends = place.ends.each (k + 1) (omega arith) inside in
        let after : nodes_of (drop e lines) ≡ upper ∷ rest = ends.following ∙ ap (drop 1) next in
        let more = ends.after in
        record {
          claim = claim;
          node =
              ap first_node is
              ∙ (λ i. InnerNode claim (sym (ap first_node next) i) (sym (ap first_node after) i));
          low = record { plain = place.plain; within = inside; ends = ends-later lines all (k + 1) (k + 1 + 1) place.ends (omega arith) };
          up = record { plain = place.plain; within = inside-is lines e upper rest after; ends = ends-later lines all (k + 1) (e + 1) place.ends (omega arith) };
          low_after = omega arith;
          up_after = omega arith;
          rest = ap (drop 1) is ∙ sym (ap (drop 1) after);
        }

-- a leaf ends at the next line
pub ends-leaf : (lines : List DueLine) (all : List ℕ) (k : ℕ) → HasPlace lines all k → IsSome (leaf_label (node_from lines k)) → EndsAt lines k (k + 1)
ends-leaf lines all k place leaf = by (here lines k place.plain place.within)
  where
    within : suc k ≤ length lines
    within = let inside = place.within in omega arith

    by : Here lines k → EndsAt lines k (k + 1)
    by (leaf-here n rest is next) =
        subst (EndsAt lines k) (omega arith) (record { after = omega arith; within = within; following = next ∙ sym (ap (drop 1) is) })
    by (inner-here claim lower upper rest is next) =
        absurd (none-has (subst (λ (node : Node). IsSome (leaf_label node)) (ap first_node is) leaf))
      where
        none-has : IsSome {T = ℕ} None → ⊥
        none-has e = cc

same-label : (node : Node) → leaf_label (node_of (first_line node)) ≡ leaf_label node
same-label (LeafNode number) = refl
same-label (InnerNode claim lower upper) = refl
same-label (ChainNode claim bits side end) = refl

-- the label of the line with a number is the label of the node there
pub label-at : (lines : List DueLine) (k : ℕ) (line : DueLine) → ArePlain lines → k < length lines → line ≡ get_or lines k (LeafLine 0)
    → leaf_label (node_of line) ≡ leaf_label (node_from lines k)
label-at lines k line are inside is =
    ap (λ (l : DueLine). leaf_label (node_of l)) (is ∙ line-of lines k are inside) ∙ same-label (node_from lines k)

-- nodes below shallow ones are shallow, and so are those from a line on
below-shallow : (nodes : List Node) → All IsShallow nodes → All IsShallow (from_next_line nodes)
below-shallow [] all = all
below-shallow (node ∷ nodes) all = by node (All-head IsShallow node nodes all) (All-tail IsShallow node nodes all)
  where
    by : (node : Node) → IsShallow node → All IsShallow nodes → All IsShallow (from_next_line (node ∷ nodes))
    by (LeafNode number) shallow rest = rest
    by (InnerNode claim lower upper) (count, zero, few, form) rest = absurd form
    by (InnerNode claim lower upper) (count, suc room, few, form) rest =
        All-cons IsShallow lower (upper ∷ nodes) (count, room, omega (arith, few), form.2)
        (All-cons IsShallow upper nodes (count, room, omega (arith, few), form.3) rest)
    by (ChainNode claim bits side end) (count, room, few, form) rest =
        let last = left-room (HasChainForm count end) bits room form.4 in
        All-cons IsShallow end nodes (count, last.0, omega (arith, few, last.1), last.2) rest

shallow-from : (lines : List DueLine) (k : ℕ) → AreWhole lines → All IsShallow (nodes_of lines) → All IsShallow (nodes_of (drop k lines))
shallow-from lines zero whole all = all
shallow-from lines (suc k) whole all =
    subst (All IsShallow) (sym (nodes-next lines k (whole-drop lines k whole))) (below-shallow (nodes_of (drop k lines)) (shallow-from lines k whole all))

first-short : (side : ℕ) (nodes : List Node) → All IsShallow nodes → length (spine_bits nat_eq side (first_node nodes)) ≤ 128
first-short side [] all = omega arith
first-short side (node ∷ nodes) all =
    let shallow = All-head IsShallow node nodes all in
    let last = left-room (HasChainForm shallow.0 (spine_end nat_eq side node)) (spine_bits nat_eq side node) shallow.1 (form-spine shallow.0 side node shallow.1 shallow.3) in
    omega (arith, shallow.2, last.1)

-- the lines of a shallow node without chains are plain
pub plain-of : (node : Node) (lines : List DueLine) → lines ≡ node_lines node → IsPlain node → IsShallow node → ArePlain lines
plain-of node lines is plain shallow = record {
  whole = tree-whole lines node is;
  plain = subst (All IsPlainLine) (sym is) (plain-lines node plain);
  short = λ k side. first-short side (nodes_of (drop k lines))
      (shallow-from lines k (tree-whole lines node is) (subst (All IsShallow) (sym (root-of lines node is)) (All-cons IsShallow node [] shallow (All-nil IsShallow))));
}

pub root-at : (node : Node) (lines : List DueLine) → lines ≡ node_lines node → node_from lines 0 ≡ node
root-at node lines is = ap first_node (root-of lines node is)

pub some-lines : (node : Node) (lines : List DueLine) → lines ≡ node_lines node → 0 < length lines
some-lines node lines is = let e = ap length (root-of lines node is) in within lines 0 (omega arith)
