-- The text that is written by label numbers is that of the certificate with label texts.
use Rattle.std.proofs.Common.{◌≡◌, ℕ, zero, suc, ◌+◌, ◌/◌, ◌%◌, ◌<◌, ◌∙◌, ◌≤◌, List, [], ◌∷◌, ◌++◌, length, map, sym, ap, arith, subst, take}
use Rattle.std.specs.Fmt.{decimal}
use Rattle.std.specs.List.{flat_map, join_with_byte}
use Rattle.std.proofs.lemmas.Fmt.{decimal_digit, decimal_step}
use Rattle.std.proofs.lemmas.List.{append-nil}
use Rattle.std.proofs.lemmas.List.Concat.{flat_map-append}
use Rattle.prefix_keys.specs.declared.version.Version.{Version}
use Rattle.pmap_model.specs.Label.{IsLabelTable}
use Rattle.pmap_model.specs.MapModel.{Label}
use Rattle.pmap_cert.specs.CertificateModel.{ChainNode, InnerNode, LeafNode, Tree, map_tree}
use Rattle.pmap_cert.specs.CertificateText.{HasChainForm, HasNodeForm, certificate_text, format_header, node_line_text, node_lines, place_of, text_of_lines}
use Rattle.pmap_cert.specs.Node.{Node, claiming, tree_of}
use Rattle.pmap_cert.proofs.ChainWords.{left-room}
use Rattle.pmap_cert.proofs.Tables.{place_of-text_at, places-texts, text_at-place_of, texts-places}

-- a word and numbers joined by spaces are the word and each number after a space
pub joined-numbers : (word : List ℕ) (ns : List ℕ) → join_with_byte 32 (word ∷ map decimal ns) ≡ word ++ flat_map (λ n. 32 ∷ decimal n) ns
joined-numbers word [] = sym (append-nil word)
joined-numbers word (n ∷ ns) = ap (λ text. word ++ 32 ∷ text) (joined-numbers (decimal n) ns)

-- the digits of a number of two digits, and of one more digit after them
pub two-digits : (n : ℕ) → 10 ≤ n → n < 100 → decimal n ≡ (48 + n / 10) ∷ (48 + n % 10) ∷ []
two-digits n low high =
    decimal_step n low (omega (arith, high)) ∙ ap (λ t. t ++ (48 + n % 10) ∷ []) (decimal_digit (n / 10) (omega (arith, high)))

pub three-digits : (n : ℕ) → 100 ≤ n → n < 1000 → decimal n ≡ (48 + n / 10 / 10) ∷ (48 + n / 10 % 10) ∷ (48 + n % 10) ∷ []
three-digits n low high =
    decimal_step n (omega (arith, low)) (omega (arith, high)) ∙ ap (λ t. t ++ (48 + n % 10) ∷ []) (two-digits (n / 10) (omega (arith, low)) (omega (arith, high)))

-- a text that begins some bytes, with one byte or two before it
pub take-first : (count byte : ℕ) (bytes text : List ℕ) → take count bytes ≡ text → take (count + 1) (byte ∷ bytes) ≡ byte ∷ text
take-first count byte bytes text is =
    let next : count + 1 ≡ suc count = omega arith in
    ap (λ (n : ℕ). take n (byte ∷ bytes)) next ∙ ap (λ (t : List ℕ). byte ∷ t) is

pub take-second : (count byte second : ℕ) (bytes text : List ℕ) → take count bytes ≡ text → take (count + 2) (byte ∷ second ∷ bytes) ≡ byte ∷ second ∷ text
take-second count byte second bytes text is =
    let next : count + 2 ≡ count + 1 + 1 = omega arith in
    ap (λ (n : ℕ). take n (byte ∷ second ∷ bytes)) next ∙ take-first (count + 1) byte (second ∷ bytes) (second ∷ text) (take-first count second bytes text is)

pub ruleset digits = (decimal_digit, two-digits, three-digits)

-- the text of joined lines is that of the first and then that of the others
pub text_of_lines-append : (lines more : List (List ℕ)) → text_of_lines (lines ++ more) ≡ text_of_lines lines ++ text_of_lines more
text_of_lines-append lines more = flat_map-append (λ line. line ++ 10 ∷ []) lines more

-- the lines of a tree whose labels are numbered as in the table
abbrev pub node_line_texts : List Label → Tree → List (List ℕ)
node_line_texts table tree = map node_line_text (node_lines (map_tree (place_of table) tree))

-- the numbers of a node's labels are those of its tree, and the texts of a tree's labels are those of its node
module _ (table : List Label) where
  pub places-tree : IsLabelTable table → (node : Node) (room : ℕ) → HasChainForm (length table) node room → map_tree (place_of table) (tree_of table node) ≡ node
  places-tree ok (LeafNode number) room form = ap LeafNode (place_of-text_at table number ok form)
  places-tree ok (InnerNode claim lower upper) zero form = absurd form
  places-tree ok (InnerNode claim lower upper) (suc room) form =
      λ i. InnerNode (claiming claim.cost (places-texts table 0 claim.labels ok form.1 i)) (places-tree ok lower room form.2 i) (places-tree ok upper room form.3 i)
  places-tree ok (ChainNode claim bits side end) room form =
      let last = left-room (HasChainForm (length table) end) bits room form.4 in
      λ i. ChainNode (claiming claim.cost (places-texts table 0 claim.labels ok form.1 i)) bits (place_of-text_at table side ok form.2 i) (places-tree ok end last.0 last.2 i)

  pub texts-tree : (tree : Tree) (room : ℕ) → HasNodeForm table tree room → tree_of table (map_tree (place_of table) tree) ≡ tree
  texts-tree (LeafNode x) room form = ap LeafNode (text_at-place_of table x form)
  texts-tree (InnerNode claim lower upper) zero form = absurd form
  texts-tree (InnerNode claim lower upper) (suc room) form =
      λ i. InnerNode (record { cost = claim.cost; labels = texts-places table 0 claim.labels form.1 i }) (texts-tree lower room form.2 i) (texts-tree upper room form.3 i)
  texts-tree (ChainNode claim bits side end) room form =
      let last = left-room (HasNodeForm table end) bits room form.4 in
      λ i. ChainNode (record { cost = claim.cost; labels = texts-places table 0 claim.labels form.1 i }) bits (text_at-place_of table side form.2 i) (texts-tree end last.0 last.2 i)

  pub node_form : IsLabelTable table → (node : Node) (room : ℕ) → HasChainForm (length table) node room → HasNodeForm table (tree_of table node) room
  node_form ok node room form = subst (λ (n : Node). HasChainForm (length table) n room) (sym (places-tree ok node room form)) form

  pub line_texts-tree : IsLabelTable table → (node : Node) (room : ℕ) → HasChainForm (length table) node room → map node_line_text (node_lines node) ≡ node_line_texts table (tree_of table node)
  line_texts-tree ok node room form = ap (λ (n : Node). map node_line_text (node_lines n)) (sym (places-tree ok node room form))

-- the header, the labels and the lines of the nodes are the certificate's text
pub whole_text : (format : ℕ) (version : Version) (table : List Label) (root : Node) (room : ℕ) → IsLabelTable table → HasChainForm (length table) root room
    → text_of_lines (format_header (format, (version, length table)) ∷ table) ++ text_of_lines (map node_line_text (node_lines root))
    ≡ certificate_text (record { format = format; version = version; table = table; root = tree_of table root })
whole_text format version table root room ok form =
    let head : List (List ℕ) = format_header (format, (version, length table)) ∷ table in
    ap (λ (ls : List (List ℕ)). text_of_lines head ++ text_of_lines ls) (line_texts-tree table ok root room form)
    ∙ sym (text_of_lines-append head (node_line_texts table (tree_of table root)))
