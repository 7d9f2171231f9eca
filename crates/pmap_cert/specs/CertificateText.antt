use Rattle.std.specs.Prelude.{ℕ, ◌==◌, Bool, List, [], ◌∷◌, ◌++◌, codes, length, map}
use Rattle.std.specs.Prelude.{if◌then◌else◌, ◌≡◌, zero, suc, ◌+◌, ◌^◌, ◌<◌, ◌≤◌}
use Rattle.std.specs.List.{flat_map, join_with_byte, position_or_len}
use Rattle.std.specs.Fmt.{decimal}
use Rattle.std.specs.Str.{bytes_eq}
use Rattle.std.specs.Coded.{Unit-prop, le_prop}
use Rattle.prefix_keys.specs.declared.version.Version.{Version}
use Rattle.prefix_keys.specs.declared.version.Version.TheVariants.{V4, V6}
use Rattle.prefix_keys.specs.Block.{width_of}
use Rattle.pmap_model.specs.MapModel.{Label}
use Rattle.pmap_model.specs.Label.{IsLabelTable}
use Rattle.pmap_cert.specs.CertificateModel.{CertificateModel, ChainNode, InnerNode}
use Rattle.pmap_cert.specs.CertificateModel.{LeafNode, Tree, TreeOf, IsOfFormat, map_tree}

-- The text of a certificate of either format: lines of words with one space between two, each line ended by a line
-- feed. Labels are numbered by their index in the table.

abbrev pub version_word : Version → List ℕ
version_word V4 = codes "ipv4"
version_word V6 = codes "ipv6"

abbrev pub format_word : ℕ → List ℕ
format_word format = if format == 1 then codes "1" else codes "2"

-- `flowlabel-cert FORMAT VERSION COUNT`
abbrev pub format_header : ℕ × (Version × ℕ) → List ℕ
format_header header =
    join_with_byte 32 (codes "flowlabel-cert" ∷ format_word header.0 ∷ version_word header.1.0
    ∷ decimal header.1.1 ∷ [])

-- a line of a leaf with its label's number, of an inner node with its cost and its set's numbers, or of a chain with
-- its cost, its bits, and the numbers of its side label and its set
pub data DueLine : Type 0 where
  LeafLine : (number : ℕ) → DueLine
  InnerLine : (cost : ℕ) (numbers : List ℕ) → DueLine
  ChainLine : (cost : ℕ) (bits : List Bool) (side : ℕ) (numbers : List ℕ) → DueLine

-- a digit for each bit
abbrev pub bit_digits : List Bool → List ℕ
bit_digits bits = map (λ bit. if bit then 49 else 48) bits

-- The text of a node's line: `l NUMBER`, `n COST NUMBER NUMBER ..`, or `c COST BITS SIDE NUMBER NUMBER ..`. A set's
-- numbers come last. A bit is 1 if the path continues in the upper half.
abbrev pub node_line_text : DueLine → List ℕ
node_line_text (LeafLine number) = join_with_byte 32 (codes "l" ∷ decimal number ∷ [])
node_line_text (InnerLine cost numbers) =
    join_with_byte 32 (codes "n" ∷ decimal cost ∷ map decimal numbers)
node_line_text (ChainLine cost bits side numbers) =
    join_with_byte 32 (codes "c" ∷ decimal cost ∷ bit_digits bits ∷ decimal side
    ∷ map decimal numbers)

-- the lines of a tree with label numbers, in preorder: first the node, then all of the lower half, then all of the
-- upper, or all of a chain's end
abbrev pub node_lines : TreeOf ℕ → List DueLine
node_lines (LeafNode number) = LeafLine number ∷ []
node_lines (InnerNode claim lower upper) =
    InnerLine claim.cost claim.labels ∷ (node_lines lower ++ node_lines upper)
node_lines (ChainNode claim bits side end) =
    ChainLine claim.cost bits side claim.labels ∷ node_lines end

-- the number of a label: its index in the table, or the table's length if the table lacks it
abbrev pub place_of : List Label → Label → ℕ
place_of table x = position_or_len (bytes_eq x) table

-- the text of these lines, each ended by a line feed
abbrev pub text_of_lines : List (List ℕ) → List ℕ
text_of_lines lines = flat_map (λ line. line ++ 10 ∷ []) lines

-- the text of a certificate: the header, the labels of the table in order, and the nodes
abbrev pub certificate_text : CertificateModel → List ℕ
certificate_text c = text_of_lines (format_header (c.format, (c.version, length c.table))
    ∷ (c.table ++ map node_line_text (node_lines (map_tree (place_of c.table) c.root))))

-- Below: only contracts of parts and proofs use these; no promise of the program rests on them.

-- The certificates that have a text: each label is in the table, sets are listed by ascending numbers, costs are below
-- 2 ^ 32, and no node is deeper than an address has bits.

-- the numbers strictly ascend, are below the bound, and not below low
abbrev pub IsAscending : ℕ → ℕ → List ℕ → Type 0
IsAscending bound low [] = Unit {0}
IsAscending bound low (n ∷ ns) = (low ≤ n) × (n < bound) × IsAscending bound (n + 1) ns

pub IsAscending-prop : (bound low : ℕ) (ns : List ℕ) → IsProp (IsAscending bound low ns)
IsAscending-prop bound low [] = Unit-prop
IsAscending-prop bound low (n ∷ ns) = λ x y i.
    (le_prop x.0 y.0 i, le_prop x.1 y.1 i, IsAscending-prop bound (n + 1) ns x.2 y.2 i)

-- The node at a chain's end fits into the room below the chain: each of the chain's bits takes one level.
abbrev pub HasRoomBelow : (ℕ → Type 0) → List Bool → ℕ → Type 0
HasRoomBelow Fits [] room = Fits room
HasRoomBelow Fits (bit ∷ bits) zero = ⊥
HasRoomBelow Fits (bit ∷ bits) (suc room) = HasRoomBelow Fits bits room

-- The node has at most `room` levels below it, each bit of a chain counts as one level, and each chain has a bit. Its
-- numbers are below count, those of each set ascend, and costs are below 2 ^ 32.
abbrev pub HasChainForm : ℕ → TreeOf ℕ → ℕ → Type 0
HasChainForm count (LeafNode number) room = number < count
HasChainForm count (InnerNode claim lower upper) zero = ⊥
HasChainForm count (InnerNode claim lower upper) (suc room) =
    (claim.cost < 2 ^ 32) × IsAscending count 0 claim.labels × HasChainForm count lower room
    × HasChainForm count upper room
HasChainForm count (ChainNode claim bits side end) room =
    (claim.cost < 2 ^ 32) × IsAscending count 0 claim.labels × (side < count) × (0 < length bits)
    × HasRoomBelow (HasChainForm count end) bits room

-- like `HasChainForm`, for a tree whose labels are in the table
abbrev pub HasNodeForm : List Label → Tree → ℕ → Type 0
HasNodeForm table tree room = HasChainForm (length table) (map_tree (place_of table) tree) room

-- the certificate has a text of its format
pub record HasFormatText (c : CertificateModel) : Type 0 where
  pub format : IsOfFormat c
  pub table : IsLabelTable c.table
  pub root : HasNodeForm c.table c.root (width_of c.version)

-- the certificate has a text of format 1
pub record HasTextForm (c : CertificateModel) : Type 0 where
  pub first : c.format ≡ 1
  pub text : HasFormatText c
