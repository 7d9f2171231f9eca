use Rattle.std.specs.Prelude.{◌≡◌, ℕ, List, ◌++◌, Ok, Result, length, ◌^◌, ◌<◌, ◌≤◌, ◌==◌, ◌||◌}
use Rattle.std.specs.Prelude.{Bool, false, [], ◌∷◌, Option, None, Some, IfSome, if◌then◌else◌}
use Rattle.std.specs.Prelude.{◌+◌, true, All, codes, drop, nat_eq, nat_lt, slice_index}
use Rattle.std.specs.Coded.{Coded-set, coded_list, coded_ℕ, le_prop}
use Rattle.std.specs.Fmt.{decimal}
use Rattle.std.specs.List.{flat_map, join_with_byte}
use Rattle.prefix_keys.specs.Block.{width_of}
use Rattle.prefix_keys.specs.Text.{is_digit}
use Rattle.prefix_keys.specs.declared.version.Version.{Version}
use Rattle.pmap_model.specs.MapModel.{Label}
use Rattle.pmap_model.specs.Steps.{◌>>=◌}
use Rattle.pmap_cert.specs.Format.{IsNodeOf, format_number, Format}
use Rattle.pmap_cert.specs.FormatReading.{DueLine, Place, ended_by, fits_header, fits_line}
use Rattle.pmap_cert.specs.FormatReading.{line_due_at, node_line_text, nodes_at, CertFault}
use Rattle.pmap_cert.specs.Node.{HasChainForm, Node, node_code, node_lines}
use Rattle.pmap_cert.specs.Node.{tree_of, AreWhole, first_node, node_of, nodes_of}
use Rattle.pmap_cert.specs.CertificateModel.{CertificateModel, ClaimOf, InnerNode, IsPlain, Tree}
use Rattle.pmap_cert.specs.CertificateText.{IsAscending, bit_digits, format_header, format_word, version_word}
use Rattle.pmap_cert.specs.Compacting.{side_of, spine_bits, spine_end}

-- reads the next node of a text of this format, for addresses of `most` bits, with at most `room` levels below it
abbrev pub node_due_at : Format → ℕ → List Label → ℕ → Place → Result (Tree × Place) CertFault
node_due_at format most table room place =
    nodes_at (line_due_at (format_number format) most (length table)) table room 0 place

-- the certificate whose nodes follow at a place, after this head, or the first fault from there on
abbrev pub reading_from : Format → Version → List Label → Place → Result CertificateModel CertFault
reading_from format version table place =
    node_due_at format (width_of version) table (width_of version) place >>= (λ root.
    ended_by (record { format = format_number format; version = version; table = table; root = root.0 }) root.1)

-- the next node was read, and its lines with those of the nodes below it follow the old ones
pub record IsReadNode (format : Format) (most : ℕ) (table : List Label) (room : ℕ) (place : Place)
    (old new : List DueLine) (after : Place) : Type 0 where
  pub node : Node
  pub read : node_due_at format most table room place ≡ Ok (tree_of table node, after)
  pub form : HasChainForm (length table) node room
  pub kind : IsNodeOf format node
  pub lines : new ≡ old ++ node_lines node

-- A reading of the text finds x and the rest exactly if `Begins x rest` holds.
pub record Finds {A : Type 0} (Begins : A → List ℕ → Type 0) (found : Option (A × List ℕ)) : Type 0 where
  pub right : IfSome found (λ x. Begins x.0 x.1)
  pub only : (x : A) (rest : List ℕ) → Begins x rest → found ≡ Some (x, rest)

-- the rest of a text after its first byte, if this is `byte`
abbrev pub after_byte : ℕ → List ℕ → Option (List ℕ)
after_byte byte [] = None
after_byte byte (b ∷ rest) = if b == byte then Some rest else None

-- the text is not empty, and its first byte fails the test `known`
abbrev pub GoesOnWithout : (ℕ → Bool) → List ℕ → Type 0
GoesOnWithout known [] = ⊥
GoesOnWithout known (b ∷ rest) = known b ≡ false

abbrev pub is_bit : ℕ → Bool
is_bit d = (d == 48) || (d == 49)

-- the text is a space, the decimal text of a number below the bound, and the rest, whose first byte isn't a digit
pub record BeginsWithNumber (bound : ℕ) (text : List ℕ) (number : ℕ) (rest : List ℕ) : Type 0 where
  pub whole : text ≡ 32 ∷ (decimal number ++ rest)
  pub below : number < bound
  pub ended : GoesOnWithout is_digit rest

-- the text is a space, the digits of 1 to `most` bits, and the rest, whose first byte is neither 0 nor 1
pub record BeginsWithBits (most : ℕ) (text : List ℕ) (bits : List Bool) (rest : List ℕ) : Type 0 where
  pub whole : text ≡ 32 ∷ (bit_digits bits ++ rest)
  pub some : 0 < length bits
  pub few : length bits ≤ most
  pub ended : GoesOnWithout is_bit rest

-- the text is ascending numbers below the bound and not below low, each after a space, and then a line feed and the
-- rest
pub record BeginsWithSet (bound low : ℕ) (text : List ℕ) (numbers rest : List ℕ) : Type 0 where
  pub whole : text ≡ flat_map (λ n. 32 ∷ decimal n) numbers ++ 10 ∷ rest
  pub ascending : IsAscending bound low numbers

-- the text is the text of a value that passes the test, a line feed, and the rest
pub record BeginsWithLineOf {A : Type 0} (test : A → Bool) (text_of : A → List ℕ) (text : List ℕ) (x : A)
    (rest : List ℕ) : Type 0 where
  pub whole : text ≡ text_of x ++ 10 ∷ rest
  pub fits : test x ≡ true

-- the text is a space, a number below the bound, a line feed, and the rest
abbrev pub BeginsWithLast : ℕ → List ℕ → ℕ → List ℕ → Type 0
BeginsWithLast bound text = BeginsWithLineOf (λ n. nat_lt n bound) (λ n. 32 ∷ decimal n) text

abbrev pub BeginsWithLine : ℕ → ℕ → ℕ → List ℕ → DueLine → List ℕ → Type 0
BeginsWithLine format most count text = BeginsWithLineOf (fits_line format most count) node_line_text text

abbrev pub BeginsWithHeader : List ℕ → ℕ × (Version × ℕ) → List ℕ → Type 0
BeginsWithHeader text = BeginsWithLineOf fits_header format_header text

-- the part of a header's text before the space and the number of labels
abbrev pub header_name : ℕ → Version → List ℕ
header_name format version = join_with_byte 32 (codes "flowlabel-cert" ∷ format_word format ∷ version_word version ∷ [])

pub record BeginsWithBoth {A B : Type 0} (First : A → List ℕ → Type 0) (Second : List ℕ → B → List ℕ → Type 0)
    (both : A × B) (rest : List ℕ) : Type 0 where
  pub middle : List ℕ
  pub first : First both.0 middle
  pub second : Second middle both.1 rest

abbrev pub BeginsWithClaim : ℕ → ℕ → List ℕ → ℕ × List ℕ → List ℕ → Type 0
BeginsWithClaim bound count text = BeginsWithBoth (BeginsWithNumber bound text) (BeginsWithSet count 0)

abbrev pub BeginsWithChain : ℕ → ℕ → List ℕ → ℕ × (List Bool × (ℕ × List ℕ)) → List ℕ → Type 0
BeginsWithChain most count text =
    BeginsWithBoth (BeginsWithNumber (2 ^ 32) text)
    (λ middle. BeginsWithBoth (BeginsWithBits most middle) (BeginsWithClaim count count))

abbrev pub node_from : List DueLine → ℕ → Node
node_from lines number = first_node (nodes_of (drop number lines))

-- the lines are those of whole nodes without chains, whose spines have at most 128 bits
pub record ArePlain (lines : List DueLine) : Type 0 where
  pub whole : AreWhole lines
  pub plain : All (λ line. IsPlain (node_of line)) lines
  pub short : (k side : ℕ) → length (spine_bits nat_eq side (node_from lines k)) ≤ 128

-- The lines of the node at line `number` and of those below it end before line `end`.
pub record EndsAt (lines : List DueLine) (number end : ℕ) : Type 0 where
  pub after : number < end
  pub within : end ≤ length lines
  pub following : nodes_of (drop end lines) ≡ drop 1 (nodes_of (drop number lines))

pub record AreEndsFrom (lines : List DueLine) (ends : List ℕ) (number : ℕ) : Type 0 where
  pub count : length ends ≡ length lines
  pub each : (k : ℕ) → number ≤ k → k < length lines → EndsAt lines k (slice_index ends k)

pub AreEndsFrom-prop : (lines : List DueLine) (ends : List ℕ) (number : ℕ) → IsProp (AreEndsFrom lines ends number)
AreEndsFrom-prop lines ends number = λ x y i. record {
  count = Coded-set coded_ℕ _ _ x.count y.count i;
  each = λ k from below. record {
    after = le_prop (x.each k from below).after (y.each k from below).after i;
    within = le_prop (x.each k from below).within (y.each k from below).within i;
    following = Coded-set (coded_list node_code) _ _ (x.each k from below).following (y.each k from below).following i;
  };
}

-- Line `number` is one of nodes without chains, and `all` has the ends of the nodes after it.
pub record HasPlace (lines : List DueLine) (all : List ℕ) (number : ℕ) : Type 0 where
  pub plain : ArePlain lines
  pub within : number < length lines
  pub ends : AreEndsFrom lines all (number + 1)

-- the node at line `number` is an inner node whose halves are at lines `lower` and `upper`
pub record HasHalves (lines : List DueLine) (all : List ℕ) (number lower upper : ℕ) : Type 0 where
  pub claim : ClaimOf ℕ
  pub node : node_from lines number ≡ InnerNode claim (node_from lines lower) (node_from lines upper)
  pub low : HasPlace lines all lower
  pub up : HasPlace lines all upper
  pub low_after : number < lower
  pub up_after : number < upper
  pub rest : drop 1 (nodes_of (drop number lines)) ≡ drop 1 (nodes_of (drop upper lines))

-- a spine of the side label steps from line `number` by this bit to the chosen half
pub record IsStep (lines : List DueLine) (all : List ℕ) (side number : ℕ) (bit : Bool) (chosen : ℕ) : Type 0 where
  pub bits : spine_bits nat_eq side (node_from lines number) ≡ bit ∷ spine_bits nat_eq side (node_from lines chosen)
  pub end : spine_end nat_eq side (node_from lines number) ≡ spine_end nat_eq side (node_from lines chosen)
  pub after : number < chosen
  pub place : HasPlace lines all chosen

-- the spine of the side label from line `number` has these bits and ends at line `end`
pub record IsSpine (lines : List DueLine) (all : List ℕ) (side number : ℕ) (bits : List Bool) (end : ℕ) : Type 0 where
  pub bits_are : bits ≡ spine_bits nat_eq side (node_from lines number)
  pub node : node_from lines end ≡ spine_end nat_eq side (node_from lines number)
  pub place : HasPlace lines all end
  pub after : number + length bits ≤ end

-- the side label of a node's spine
abbrev pub side_below : Node → Option ℕ
side_below (InnerNode claim lower upper) = side_of lower upper
side_below _ = None

abbrev pub IsShort : Node → Type 0
IsShort node = (side : ℕ) → side_below node ≡ Some side → length (spine_bits nat_eq side node) < 2

-- the spine from line `number` has this side label, two bits or more, which are `bits`, and ends at line `end`
pub record IsLong (lines : List DueLine) (all : List ℕ) (number side : ℕ) (bits : List Bool) (end : ℕ) : Type 0 where
  pub sides : side_below (node_from lines number) ≡ Some side
  pub spine : IsSpine lines all side number bits end
  pub long : 2 ≤ length bits

abbrev pub IsShallow : Node → Type 0
IsShallow node = (count : ℕ) × (room : ℕ) × (room ≤ 128) × HasChainForm count node room
