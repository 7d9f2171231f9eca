-- Compacting nodes with label numbers.
use Rattle.std.proofs.Common.{◌≡◌, ◌++◌, ℕ, ◌≤◌, ◌∙◌, Bool, false, true, List, [], ◌∷◌, Some, IsSome, length, nat_eq, refl, sym, ap, arith}
use Rattle.std.proofs.lemmas.Bool.{le-leb, leb-true}
use Rattle.prefix_keys.specs.Block.{width_of}
use Rattle.prefix_keys.specs.declared.version.Version.{Version}
use Rattle.pmap_model.specs.Label.{IsLabelTable}
use Rattle.pmap_model.specs.MapModel.{Label}
use Rattle.pmap_cert.specs.CertificateModel.{CertificateModel, ChainNode, ClaimOf, InnerNode, LeafNode, claim_of}
use Rattle.pmap_cert.specs.Compacting.{compact, compacted, leaf_label, side_of, spine_bits, spine_compacted, spine_end}
use Rattle.pmap_cert.specs.Format.{format_number, Format, One, Two}
use Rattle.pmap_cert.specs.FormatReading.{ChainLine, DueLine}
use Rattle.pmap_cert.specs.Node.{HasChainForm, Node, first_line, node_lines, node_of, tree_of}
use Rattle.pmap_cert.specs.Inner.{IsShort, side_below}
use Rattle.pmap_cert.proofs.Compacts.{compact-again, compact-first}
use Rattle.pmap_cert.proofs.Relabelled.{compacted-texts}
use Rattle.pmap_cert.proofs.Spines.{by_spine, compacted-inner, compacted-leaf, spine_compacted-chain}

-- an inner node whose spine has fewer than two bits is compacted to an inner node, and any other to a chain
module _ (claim : ClaimOf ℕ) (lower upper : Node) where
  pub compact-short : IsShort (InnerNode claim lower upper)
      → compacted nat_eq (InnerNode claim lower upper) ≡ InnerNode claim (compacted nat_eq lower) (compacted nat_eq upper)
  compact-short short =
      compacted-inner nat_eq claim lower upper
      ∙ by_spine nat_eq (compacted nat_eq) claim lower upper (λ c. c ≡ InnerNode claim (compacted nat_eq lower) (compacted nat_eq upper)) (side_of lower upper)
      (λ side e long. absurd (omega (arith, short side e, leb-true 2 (length (spine_bits nat_eq side (InnerNode claim lower upper))) long)))
      (λ _. refl)

  pub compact-chain : (side : ℕ) → side_of lower upper ≡ Some side → 2 ≤ length (spine_bits nat_eq side (InnerNode claim lower upper))
      → compacted nat_eq (InnerNode claim lower upper)
      ≡ ChainNode claim (spine_bits nat_eq side (InnerNode claim lower upper)) side (compacted nat_eq (spine_end nat_eq side (InnerNode claim lower upper)))
  compact-chain side e long =
      compacted-inner nat_eq claim lower upper ∙ ap (spine_compacted nat_eq (compacted nat_eq) claim lower upper) e
      ∙ spine_compacted-chain nat_eq (compacted nat_eq) claim lower upper side (le-leb _ _ long)

-- the line of a leaf is that of the leaf compacted
pub leaf-lines : (node : Node) → IsSome (leaf_label node) → first_line node ∷ [] ≡ node_lines (compacted nat_eq node)
leaf-lines (LeafNode number) leaf = ap node_lines (sym (compacted-leaf nat_eq number))
leaf-lines (InnerNode claim lower upper) leaf = absurd (let e : false ≡ true = leaf in cc)
leaf-lines (ChainNode claim bits side end) leaf = absurd (let e : false ≡ true = leaf in cc)

module _ (node : Node) (claim : ClaimOf ℕ) (lower upper : Node) (node_is : node ≡ InnerNode claim lower upper) where
  pub chain-lines : (side : ℕ) (line : DueLine) (cost' : ℕ) (set' : List ℕ) (bits : List Bool) (down : Node) → side_below node ≡ Some side
      → bits ≡ spine_bits nat_eq side node → down ≡ spine_end nat_eq side node → 2 ≤ length bits → line ≡ first_line node
      → cost' ≡ (claim_of (node_of line)).cost → set' ≡ (claim_of (node_of line)).labels
      → ChainLine cost' bits side set' ∷ node_lines (compacted nat_eq down) ≡ node_lines (compacted nat_eq node)
  chain-lines side line cost' set' bits down sides are is long line_is cost_is set_is =
      let here = ap (λ (l : DueLine). claim_of (node_of l)) (line_is ∙ ap first_line node_is) in
      let spine = are ∙ ap (spine_bits nat_eq side) node_is in
      let count = ap length spine in
      (λ i. ChainLine ((cost_is ∙ ap (λ (c : ClaimOf ℕ). c.cost) here) i) (spine i) side ((set_is ∙ ap (λ (c : ClaimOf ℕ). c.labels) here) i)
      ∷ node_lines (compacted nat_eq ((is ∙ ap (spine_end nat_eq side) node_is) i)))
      ∙ ap node_lines (sym (ap (compacted nat_eq) node_is ∙ compact-chain claim lower upper side (sym (ap side_below node_is) ∙ sides) (omega arith)))

  pub inner-lines : IsShort node → first_line node ∷ (node_lines (compacted nat_eq lower) ++ node_lines (compacted nat_eq upper)) ≡ node_lines (compacted nat_eq node)
  inner-lines short =
      ap (λ (n : Node). first_line n ∷ (node_lines (compacted nat_eq lower) ++ node_lines (compacted nat_eq upper))) node_is
      ∙ ap node_lines
      (sym (ap (compacted nat_eq) node_is ∙ compact-short claim lower upper (λ side e.
      let few = short side (ap side_below node_is ∙ e) in
      let count = ap (λ (n : Node). length (spine_bits nat_eq side n)) node_is in
      omega arith)))

-- Compacting a certificate of either format.
module _ (format : Format) (version : Version) (table : List Label) (root : Node) where
  abbrev before : CertificateModel
  before = record { format = format_number format; version = version; table = table; root = tree_of table root }

  abbrev after : Node → CertificateModel
  after r = record { format = 2; version = version; table = table; root = tree_of table r }

  pub compact-one : (r : Node) → IsLabelTable table → HasChainForm (length table) root (width_of version) → format ≡ One → r ≡ compacted nat_eq root → after r ≡ compact before
  compact-one r ok form one is =
      ap after is ∙ (λ i. record { format = 2; version = version; table = table; root = sym (compacted-texts table ok root (width_of version) form) i })
      ∙ sym (compact-first before (ap format_number one))

  pub compact-two : (r : Node) → format ≡ Two → r ≡ root → after r ≡ compact before
  compact-two r two is =
      (λ i. record { format = sym (ap format_number two) i; version = version; table = table; root = tree_of table (is i) })
      ∙ sym (compact-again before (ap format_number two))
