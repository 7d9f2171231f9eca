use Rattle.std.specs.Prelude.{◌≡◌, ℕ, zero, suc, ◌+◌, ◌<◌, ◌||◌, ◌==◌, Bool, true, false, List}
use Rattle.std.specs.Prelude.{[], ◌∷◌, Option, Some, None, IsTrue, length, nat_le, if◌then◌else◌}
use Rattle.std.specs.Option.{option_or}
use Rattle.std.specs.Str.{bytes_eq}
use Rattle.pmap_model.specs.MapModel.{Label}
use Rattle.pmap_cert.specs.CertificateModel.{CertificateModel, ChainNode, InnerNode}
use Rattle.pmap_cert.specs.CertificateModel.{LeafNode, ClaimOf, Tree, TreeOf, claim_of}

-- Compacting: a chain replaces each spine of two inner nodes or more. A spine is a path down the tree whose inner nodes
-- each have a leaf in the half beside the path. These leaves have the same label, the side label.

-- the number of lines of a node and the nodes below it
abbrev pub line_count : {L : Type 0} → TreeOf L → ℕ
line_count (LeafNode x) = 1
line_count (InnerNode claim lower upper) = 1 + line_count lower + line_count upper
line_count (ChainNode claim bits side end) = 1 + line_count end

-- the label of a leaf
abbrev pub leaf_label : {L : Type 0} → TreeOf L → Option L
leaf_label (LeafNode x) = Some x
leaf_label _ = None

-- the side label of an inner node's spine, by its halves: that of the lower one if it is a leaf, otherwise of the upper
-- one
abbrev pub side_of : {L : Type 0} → TreeOf L → TreeOf L → Option L
side_of lower upper = option_or (leaf_label lower) (leaf_label upper)

-- The following definitions take the test `same` whether two labels are equal.

-- the node is a leaf with this label
abbrev pub is_side : {L : Type 0} → (L → L → Bool) → L → TreeOf L → Bool
is_side same side (LeafNode x) = same x side
is_side same side _ = false

-- the bits of the longest spine of a side label from a node down: a half is chosen as long as the other half is a leaf
-- with the side label; if both are, the upper one is chosen
abbrev pub spine_bits : {L : Type 0} → (L → L → Bool) → L → TreeOf L → List Bool
spine_bits same side (InnerNode claim lower upper) =
    if is_side same side lower then true ∷ spine_bits same side upper
    else (if is_side same side upper then false ∷ spine_bits same side lower else [])
spine_bits same side _ = []

-- the node at the end of the longest spine of a side label from a node down
abbrev pub spine_end : {L : Type 0} → (L → L → Bool) → L → TreeOf L → TreeOf L
spine_end same side (InnerNode claim lower upper) =
    if is_side same side lower then spine_end same side upper
    else (if is_side same side upper then spine_end same side lower
    else InnerNode claim lower upper)
spine_end same side node = node

-- An inner node compacted, with `inside` for the nodes below it. If its spine has two bits or more, it turns into a
-- chain with its claim, those bits and the compacted end of the spine; otherwise its halves are compacted.
abbrev pub spine_compacted : {L : Type 0} → (L → L → Bool) → (TreeOf L → TreeOf L) → ClaimOf L
    → TreeOf L → TreeOf L → Option L → TreeOf L
spine_compacted same inside claim lower upper None = InnerNode claim (inside lower) (inside upper)
spine_compacted same inside claim lower upper (Some side) =
    if nat_le 2 (length (spine_bits same side (InnerNode claim lower upper)))
    then ChainNode claim (spine_bits same side (InnerNode claim lower upper)) side
    (inside (spine_end same side (InnerNode claim lower upper)))
    else InnerNode claim (inside lower) (inside upper)

-- a node compacted down to this many steps below it
unfoldable pub compacted_in : {L : Type 0} → (L → L → Bool) → ℕ → TreeOf L → TreeOf L
compacted_in same zero node = node
compacted_in same (suc steps) (LeafNode x) = LeafNode x
compacted_in same (suc steps) (InnerNode claim lower upper) =
    spine_compacted same (compacted_in same steps) claim lower upper (side_of lower upper)
compacted_in same (suc steps) (ChainNode claim bits side end) =
    ChainNode claim bits side (compacted_in same steps end)

-- a node compacted, which has fewer steps down than lines
abbrev pub compacted : {L : Type 0} → (L → L → Bool) → TreeOf L → TreeOf L
compacted same node = compacted_in same (line_count node) node

-- a certificate compacted: one of format 1 has its root compacted and gets format 2, one of format 2 is unchanged
abbrev pub compact : CertificateModel → CertificateModel
compact c =
    if c.format == 1
    then record c { format = 2; root = compacted bytes_eq c.root }
    else c

-- Below: only contracts of parts and proofs use these; no promise of the program rests on them.

-- The bits are a path down the tree, with a side leaf beside each inner node's chosen half, to a node that meets
-- `IsEnd`.
abbrev pub IsPath : (Tree → Type 0) → Label → List Bool → Tree → Type 0
IsPath IsEnd side [] t = IsEnd t
IsPath IsEnd side (bit ∷ bits) (InnerNode claim lower upper) =
    ((if bit then lower else upper) ≡ LeafNode side) × IsPath IsEnd side bits (if bit then upper else lower)
IsPath IsEnd side (bit ∷ bits) _ = ⊥

-- The second tree is the first with its chains opened: the labels are the same, and so are the claims, except at the
-- inner nodes below a chain's top.
abbrev pub OpensTo : Tree → Tree → Type 0
OpensTo (LeafNode x) t = t ≡ LeafNode x
OpensTo (InnerNode claim lower upper) (InnerNode claim' lower' upper') =
    (claim ≡ claim') × OpensTo lower lower' × OpensTo upper upper'
OpensTo (ChainNode claim bits side end) t = (0 < length bits) × (claim ≡ claim_of t) × IsPath (OpensTo end) side bits t
OpensTo (InnerNode claim lower upper) _ = ⊥

-- two trees have the same shape and the same labels at their leaves, whatever their inner nodes claim
abbrev pub IsSameShape : Tree → Tree → Type 0
IsSameShape (LeafNode x) (LeafNode y) = x ≡ y
IsSameShape (InnerNode claim lower upper) (InnerNode claim' lower' upper') =
    IsSameShape lower lower' × IsSameShape upper upper'
IsSameShape _ _ = ⊥

-- the node is an inner node, and one of its halves is a leaf with the label
abbrev pub has_side : Label → Tree → Bool
has_side side (InnerNode claim lower upper) = is_side bytes_eq side lower || is_side bytes_eq side upper
has_side side _ = false

-- No spine of two inner nodes is left in the tree: no inner node has a leaf in one half and, in the other, an inner
-- node that has a leaf of the same label.
abbrev pub HasNoSpine : Tree → Type 0
HasNoSpine (LeafNode x) = Unit {0}
HasNoSpine (InnerNode claim lower upper) =
    ((x : Label) → IsTrue (is_side bytes_eq x lower) → ¬ IsTrue (has_side x upper))
    × ((x : Label) → IsTrue (is_side bytes_eq x upper) → ¬ IsTrue (has_side x lower))
    × HasNoSpine lower × HasNoSpine upper
HasNoSpine (ChainNode claim bits side end) = HasNoSpine end
