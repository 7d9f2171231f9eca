use Rattle.std.specs.Prelude.{ℕ, zero, suc, ◌+◌, ◌^◌, ◌&&◌, ◌==◌, Bool, true, false, List, [], ◌∷◌}
use Rattle.std.specs.Prelude.{◌++◌, Option, Some, None, Result, Ok, Err, codes, length, map, nat_le}
use Rattle.std.specs.Prelude.{nat_lt, not, ok_or, option_and_then, option_map, if◌then◌else◌, ◌||◌}
use Rattle.std.specs.List.{slice_split}
use Rattle.std.specs.Str.{bytes_eq}
use Rattle.prefix_keys.specs.Text.{decimal_value}
use Rattle.prefix_keys.specs.Block.{width_of}
use Rattle.prefix_keys.specs.declared.version.Version.{Version}
use Rattle.prefix_keys.specs.declared.version.Version.TheVariants.{V4, V6}
use Rattle.pmap_model.specs.Label.{has_label, is_label}
use Rattle.pmap_model.specs.MapModel.{Label}
use Rattle.pmap_model.specs.MapText.{text_at}
use Rattle.pmap_model.specs.Steps.{◌>>=◌}
use Rattle.pmap_cert.specs.CertificateModel.{CertificateModel, InnerNode, LeafNode, Tree, ChainNode}
use Rattle.pmap_cert.specs.CertificateText.{format_header}
pub use Rattle.pmap_cert.specs.CertificateText.{ChainLine, DueLine, InnerLine, LeafLine, node_line_text}
pub use Rattle.pmap_cert.specs.declared.fault.CertFault.{CertFault}
pub use Rattle.pmap_cert.specs.declared.fault.CertFaultKind.{CertFaultKind}
pub use Rattle.pmap_cert.specs.declared.fault.CertFaultKind.TheVariants.{BadHeader, BadLabelTable, BadNode}
pub use Rattle.pmap_cert.specs.declared.fault.CertFaultKind.TheVariants.{NoMemory, NodesLeft, NodesMissing, TooDeep}

-- The reading of a certificate's text of either format, line by line, and the first fault of any other text.

-- the rest of a text: the number of lines read so far, and the pieces of the rest between its line feeds; each piece
-- except the last is a line
pub record Place : Type 0 where
  pub number : ℕ
  pub pieces : List (List ℕ)

-- a value that was read, with the rest of the text, or the first fault
abbrev pub Found : Type 0 → Type 0
Found A = Result (A × Place) CertFault

-- the pieces of a text, and its rest before any line is read
abbrev pub pieces_of : List ℕ → List (List ℕ)
pieces_of text = slice_split (λ b. b == 10) text

abbrev pub start_of : List ℕ → Place
start_of text = record { number = 0; pieces = pieces_of text }

-- the next line, if there is one, and the rest of the text
abbrev pub line_from : ℕ → List (List ℕ) → Option (List ℕ × Place)
line_from number (line ∷ piece ∷ pieces) =
    Some (line, record { number = number + 1; pieces = piece ∷ pieces })
line_from number _ = None

-- the text is at its end
abbrev pub is_ended : List (List ℕ) → Bool
is_ended ([] ∷ []) = true
is_ended _ = false

-- a fault in the next line
abbrev pub fault_at : Place → CertFaultKind → CertFault
fault_at place kind = record { kind = kind; line = place.number + 1 }

-- reads the value of the next line; a fault of this kind if there is no line or it has no such value
abbrev pub line_value : {A : Type 0} → CertFaultKind → (List ℕ → Option A) → Place
    → Found A
line_value kind value_of place =
    ok_or (option_and_then (λ n. option_map (λ x. (x, n.1)) (value_of n.0))
    (line_from place.number place.pieces))
    (fault_at place kind)

-- the label of a line, if it is one that the table doesn't have yet
abbrev pub new_label : List Label → List ℕ → Option Label
new_label table line = if is_label line && not (has_label table line) then Some line else None

-- reads `left` more labels of a table, each of which is new
abbrev pub labels_at : ℕ → List Label → Place → Found (List Label)
labels_at zero table place = Ok (table, place)
labels_at (suc left) table place =
    line_value BadLabelTable (new_label table) place
    >>= (λ label. labels_at left (table ++ label.0 ∷ []) label.1)

-- the numbers strictly ascend, are below the bound, and not below low
abbrev pub is_ascending : ℕ → ℕ → List ℕ → Bool
is_ascending bound low [] = true
is_ascending bound low (n ∷ ns) = nat_le low n && (nat_lt n bound && is_ascending bound (n + 1) ns)

-- the line fits a certificate of this format with `count` labels for addresses of `most` bits; only format 2 has chains
abbrev pub fits_line : ℕ → ℕ → ℕ → DueLine → Bool
fits_line format most count (LeafLine number) = nat_lt number count
fits_line format most count (InnerLine cost numbers) =
    nat_lt cost (2 ^ 32) && is_ascending count 0 numbers
fits_line format most count (ChainLine cost bits side numbers) =
    (format == 2) && (nat_lt cost (2 ^ 32) && (nat_le 1 (length bits) && (nat_le (length bits) most
    && (nat_lt side count && is_ascending count 0 numbers))))

-- The only line that could have these words. A comparison with its text decides whether it has them.
abbrev pub likely_chain : ℕ → List (List ℕ) → DueLine
likely_chain cost (bits ∷ side ∷ numbers) =
    ChainLine cost (map (λ d. d == 49) bits) (decimal_value side) (map decimal_value numbers)
likely_chain cost _ = LeafLine 0

abbrev pub likely_line : List (List ℕ) → DueLine
likely_line (kind ∷ number ∷ words) =
    if bytes_eq kind (codes "l") then LeafLine (decimal_value number)
    else (if bytes_eq kind (codes "n")
    then InnerLine (decimal_value number) (map decimal_value words)
    else likely_chain (decimal_value number) words)
likely_line _ = LeafLine 0

abbrev pub fits_header : ℕ × (Version × ℕ) → Bool
fits_header header = ((header.0 == 1) || (header.0 == 2)) && nat_le header.1.1 65536

-- the only header that could have these words
abbrev pub likely_header : List (List ℕ) → ℕ × (Version × ℕ)
likely_header (name ∷ format ∷ version ∷ count ∷ words) = (
  decimal_value format,
  (if bytes_eq version (codes "ipv4") then V4 else V6, decimal_value count),
)
likely_header _ = (0, (V4, 0))

-- reads a line as the value that fits and whose text the line is; `likely` is the only one that could have its words,
-- the pieces between its spaces
abbrev pub printed_at : {A : Type 0} → CertFaultKind → (A → Bool) → (A → List ℕ)
    → (List (List ℕ) → A) → Place → Found A
printed_at kind fits text_of likely place =
    line_value kind (λ line. let x = likely (slice_split (λ b. b == 32) line) in
    if fits x && bytes_eq line (text_of x) then Some x else None) place

-- reads the header
abbrev pub format_header_at : Place → Found (ℕ × (Version × ℕ))
format_header_at place = printed_at BadHeader fits_header format_header likely_header place

-- reads the line of the next node; if there is no next line because the text has ended, the fault is `NodesMissing`,
-- otherwise `BadNode`
abbrev pub line_due_at : ℕ → ℕ → ℕ → Place → Found DueLine
line_due_at format most count place =
    printed_at (if is_ended place.pieces then NodesMissing else BadNode)
    (fits_line format most count) node_line_text likely_line place

-- The node of a line, with at most `room` levels below it. `inside d` reads a node that is d + 1 levels below: a half
-- of an inner node is one level below it, and a chain's end as many levels as the chain has bits.
abbrev pub due_node : List Label → ℕ → Place → (ℕ → Place → Found Tree) → DueLine → Place
    → Found Tree
due_node table room place inside (LeafLine number) after =
    Ok (LeafNode (text_at table number), after)
due_node table room place inside (InnerLine cost numbers) after =
    inside 0 after >>= (λ lower. inside 0 lower.1 >>= (λ upper.
    Ok (
      InnerNode (record { cost = cost; labels = map (text_at table) numbers })
          lower.0 upper.0,
      upper.1,
    )))
due_node table room place inside (ChainLine cost [] side numbers) after =
    Err (fault_at place BadNode)
due_node table room place inside (ChainLine cost (bit ∷ bits) side numbers) after =
    if nat_le (suc (length bits)) room
    then inside (length bits) after >>= (λ end.
    Ok (
      ChainNode (record { cost = cost; labels = map (text_at table) numbers }) (bit ∷ bits)
          (text_at table side) end.0,
      end.1,
    ))
    else Err (fault_at place TooDeep)

-- Reads the next node and those below it, with `due` for its line. It is `down` levels below a node that may have
-- `room` levels below it.
unfoldable pub nodes_at : (Place → Found DueLine) → List Label → ℕ → ℕ → Place → Found Tree
nodes_at due table zero down place =
    due place >>= (λ line. due_node table zero place
    (λ deeper after. Err (fault_at place TooDeep)) line.0 line.1)
nodes_at due table (suc room) zero place =
    due place >>= (λ line. due_node table (suc room) place (nodes_at due table room) line.0 line.1)
nodes_at due table (suc room) (suc down) place = nodes_at due table room down place

-- the certificate, or a fault if something follows the last node
abbrev pub ended_by : CertificateModel → Place → Result CertificateModel CertFault
ended_by c place = if is_ended place.pieces then Ok c else Err (fault_at place NodesLeft)

-- the certificate that a text of either format is read as, or the first fault of the text with its line
unfoldable pub format_reading : List ℕ → Result CertificateModel CertFault
format_reading text =
    format_header_at (start_of text)
    >>= (λ header. labels_at header.0.1.1 [] header.1 >>= (λ labels.
    nodes_at (line_due_at header.0.0 (width_of header.0.1.0) (length labels.0)) labels.0
    (width_of header.0.1.0) 0 labels.1
    >>= (λ root. ended_by (record {
      format = header.0.0;
      version = header.0.1.0;
      table = labels.0;
      root = root.0;
    }) root.1)))
