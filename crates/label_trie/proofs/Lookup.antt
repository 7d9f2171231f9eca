-- The label of an address among leaves.
use Rattle.std.proofs.Common.{◌≡◌, ℕ, suc, All, ◌+◌, ◌-◌, ◌*◌, ◌/◌, ◌%◌, ◌^◌, ◌<◌, ◌≤◌, inl, inr, cond, Bool, List, [], ◌∷◌, ◌++◌, Option, false, Some, None, option_and_then, option_map, refl, sym, ◌∙◌, ap, arith, find, length, slice_get}
use Rattle.std.proofs.lemmas.Bool.{cases_lt, eq-eqb, eqb-true, ne_eqb}
use Rattle.std.proofs.lemmas.List.Elements.{All-contains}
use Rattle.std.specs.Option.{option_or}
use Rattle.std.proofs.lemmas.List.Folds.{find-append}
use Rattle.std.proofs.lemmas.Nat.{pow_pos}
use Rattle.std.proofs.lemmas.Option.{same_Some, slice_get_within}
use Rattle.prefix_keys.specs.Block.{block_number, first_of, last_of, width_of}
use Rattle.pmap_model.specs.MapModel.{Label}
use Rattle.pmap_stretches.specs.Stretches.{HasEveryAddress, StretchesModel, label_held, text_held}
use Rattle.pmap_model.specs.declared.label.LabelId.{LabelId}
use Rattle.label_trie.specs.Leaves.{leaves_in}
use Rattle.label_trie.specs.Stored.{IsInnerAt, IsLeafAt, IsNodeAt}
use Rattle.label_trie.specs.TrieModel.{LeafModel, NodeModel, TrieModel, IsCut, has_address, label_among, label_in}
use Rattle.pmap_model.proofs.Blocks.{address-between, address-first, address-last, block_number-half, block_number-zero}
use Rattle.pmap_model.proofs.Finds.{find_passes}
use Rattle.label_trie.proofs.Leaves.{CutsBlock, HasItsLabel, leaves_held, meet, space_cut}

-- a leaf that ends before an address doesn't have it
ends_before : (W a : ℕ) (leaf : LeafModel) → last_of W leaf.bits leaf.number < a → has_address W a leaf ≡ false
ends_before W a leaf less =
    ne_eqb leaf.number (block_number W leaf.bits a) (λ same. omega (arith, less, address-last W leaf.bits leaf.number a (sym same)))

block_ordered : (q P : ℕ) → q * P ≤ (q + 1) * P - 1 + 1
block_ordered q P = omega arith

-- each address between is in a leaf
cut_found : (W from to a : ℕ) (leaves : List LeafModel) → IsCut W from to leaves → from ≤ a → a < to
    → (leaf : LeafModel) × (find (has_address W a) leaves ≡ Some leaf)
cut_found W from to a [] cut ge lt = absurd (omega (arith, cut, ge, lt))
cut_found W from to a (leaf ∷ leaves) cut ge lt =
    elim (cases_lt (last_of W leaf.bits leaf.number) a) [
      | inl following ↦
          let rest = cut_found W (last_of W leaf.bits leaf.number + 1) to a leaves cut.2 (omega (arith, following)) lt in
          (rest.0, rw (ends_before W a leaf following) rest.1)
      | inr within ↦
          let here = address-between W leaf.bits leaf.number a (omega (arith, cut.1, ge)) within in
          (leaf, rw (eq-eqb leaf.number (block_number W leaf.bits a) (sym here)))
    ]

cut_ordered : (W from to : ℕ) (leaves : List LeafModel) → IsCut W from to leaves → from ≤ to
cut_ordered W from to [] cut = omega (arith, cut)
cut_ordered W from to (leaf ∷ leaves) cut =
    let rest = cut_ordered W (last_of W leaf.bits leaf.number + 1) to leaves cut.2 in
    let own = block_ordered leaf.number (2 ^ (W - leaf.bits)) in
    omega (arith, cut.1, rest, own)

-- no leaf has an address beyond them
cut_missed : (W from to a : ℕ) (leaves : List LeafModel) → IsCut W from to leaves → to ≤ a → find (has_address W a) leaves ≡ None
cut_missed W from to a [] cut beyond = refl
cut_missed W from to a (leaf ∷ leaves) cut beyond =
    let ordered = cut_ordered W (last_of W leaf.bits leaf.number + 1) to leaves cut.2 in
    rw (ends_before W a leaf (omega (arith, ordered, beyond))) (cut_missed W (last_of W leaf.bits leaf.number + 1) to a leaves cut.2 beyond)

halves_meet : (W n m q lower upper : ℕ) → m ≡ n → lower ≡ 2 * q → upper ≡ 2 * q + 1 → last_of W n lower + 1 ≡ first_of W m upper
halves_meet W n m q lower upper len low high = rw (len, low, high) (meet W n q (2 ^ (W - n)) (pow_pos (W - n)) refl)

-- the label of an address in the lower half of a block, and in the upper one
module _ (W n q a : ℕ) (low high : List LeafModel) (cut : CutsBlock W n q low) where
  pub label_low : q ≡ block_number W n a → label_among W (low ++ high) a ≡ label_among W low a
  label_low here =
      let from = address-first W n q a (sym here) in
      let to = address-last W n q a (sym here) in
      let found = cut_found W (first_of W n q) (last_of W n q + 1) a low cut from (omega (arith, to)) in
      ap (option_and_then (λ leaf. leaf.label)) (find-append (has_address W a) low high ∙ ap (λ (o : Option LeafModel). option_or o (find (has_address W a) high)) found.1 ∙ sym found.1)

  pub label_high : last_of W n q < a → label_among W (low ++ high) a ≡ label_among W high a
  label_high beyond =
      ap (option_and_then (λ leaf. leaf.label)) (find-append (has_address W a) low high
      ∙ ap (λ (o : Option LeafModel). option_or o (find (has_address W a) high)) (cut_missed W (first_of W n q) (last_of W n q + 1) a low cut (omega (arith, beyond))))

-- what is true of each leaf is true of the leaf that has the address
pub leaf_with : (W : ℕ) (P : LeafModel → Type 0) (leaves : List LeafModel) (a : ℕ) → IsCut W 0 (2 ^ W) leaves → a < 2 ^ W → All P leaves
    → (leaf : LeafModel) × P leaf × (leaf.number ≡ block_number W leaf.bits a) × (label_among W leaves a ≡ leaf.label)
leaf_with W P leaves a cut below all =
    let found = cut_found W 0 (2 ^ W) a leaves cut (omega arith) below in
    let passes = find_passes (has_address W a) leaves found.0 found.1 in (
      found.0,
      All-contains P leaves found.0 all passes.0,
      eqb-true found.0.number (block_number W found.0.bits a) passes.1,
      ap (option_and_then (λ leaf. leaf.label)) found.1,
    )

-- the label of an address among the leaves of stretches is that of its stretch
pub label_held_in : (s : StretchesModel) → HasEveryAddress s → (a : ℕ) → a < 2 ^ width_of s.version
    → label_among (width_of s.version) (leaves_in s (width_of s.version) 0 0) a ≡ option_map (λ id. id.0) (label_held s a)
label_held_in s every a below =
    let here = leaf_with (width_of s.version) (HasItsLabel s every) (leaves_in s (width_of s.version) 0 0) a (space_cut s every) below (leaves_held s every) in
    here.3 ∙ here.1 a here.2

text_found : (table : List Label) (o : Option LabelId) → option_and_then (slice_get table) (option_map (λ id. id.0) o) ≡ option_and_then (λ id. slice_get table id.0) o
text_found table None = refl
text_found table (Some id) = refl

-- and so is its text
pub text_held_in : (s : StretchesModel) → HasEveryAddress s → (table : List Label) (a : ℕ) → a < 2 ^ width_of s.version
    → option_and_then (slice_get table) (label_among (width_of s.version) (leaves_in s (width_of s.version) 0 0) a) ≡ text_held table s a
text_held_in s every table a below = ap (option_and_then (slice_get table)) (label_held_in s every a below) ∙ text_found table (label_held s a)

-- The node's block has the address, and the node's leaves give the address its label.
pub record IsOnWay (t : TrieModel) (a number bits : ℕ) : Type 0 where
  pub node : NodeModel
  pub at : IsNodeAt t number node
  pub bits_are : node.bits + bits ≡ width_of t.version
  pub has : node.number ≡ block_number (width_of t.version) node.bits a
  pub label : label_in t a ≡ label_among (width_of t.version) node.leaves a

module _ (t : TrieModel) (a : ℕ) where
  abbrev W : ℕ
  W = width_of t.version

  pub way_start : IsNodeAt t 0 (record { bits = 0; number = 0; leaves = t.leaves }) → a < 2 ^ W → IsOnWay t a 0 W
  way_start root below = record { node = _; at = root; bits_are = omega arith; has = sym (block_number-zero W a below); label = refl }

  module _ (number bits : ℕ) (way : IsOnWay t a number bits) where
    pub way_below : number < length t.nodes
    way_below = slice_get_within t.nodes number way.node way.at.there

    pub way_leaf : (label : Option ℕ) → IsLeafAt t number label → label_in t a ≡ label
    way_leaf label is =
        let same = same_Some _ _ (sym way.at.there ∙ is.at.there) in
        let here : is.leaf.number ≡ block_number W is.leaf.bits a = rw same at way.has in
        way.label ∙ ap (λ (n : NodeModel). label_among W n.leaves a) same
        ∙ ap (λ (b : Bool). option_and_then (λ leaf. leaf.label) (cond b (Some is.leaf) None)) (eq-eqb is.leaf.number (block_number W is.leaf.bits a) here)
        ∙ is.label_is

    pub way_bits : bits ≤ W
    way_bits = omega (arith, way.bits_are)

    module _ (upper : ℕ) (inner : IsInnerAt t number upper) where
      abbrev low : NodeModel
      low = inner.low

      abbrev high : NodeModel
      high = inner.high

      same : way.node ≡ inner.whole
      same = same_Some _ _ (sym way.at.there ∙ inner.whole_at.there)

      pub way_positive : 0 < bits
      way_positive = omega (arith, way.bits_are, ap (λ (n : NodeModel). n.bits) same, inner.low_bits, inner.low_at.within)

      deeper : low.bits ≡ suc inner.whole.bits
      deeper = omega (arith, inner.low_bits)

      deeper' : high.bits ≡ suc inner.whole.bits
      deeper' = omega (arith, inner.high_bits)

      left : W - suc inner.whole.bits ≡ bits - 1
      left = omega (arith, way.bits_are, ap (λ (n : NodeModel). n.bits) same)

      -- the number of the half with the address is twice the block's, and one more for the upper half
      half : inner.whole.number ≡ a / 2 ^ (bits - 1) / 2
      half =
          let below : inner.whole.bits < W = omega (arith, inner.low_bits, inner.low_at.within) in
          let has : inner.whole.number ≡ block_number W inner.whole.bits a = rw same at way.has in
          has ∙ block_number-half W inner.whole.bits a below ∙ ap (λ (n : ℕ). a / 2 ^ n / 2) left

      in_half : (n : ℕ) → n ≡ suc inner.whole.bits → block_number W n a ≡ a / 2 ^ (bits - 1)
      in_half n is = ap (λ (k : ℕ). a / 2 ^ k) (ap (λ (k : ℕ). W - k) is ∙ left)

      among : label_in t a ≡ label_among W (low.leaves ++ high.leaves) a
      among = way.label ∙ ap (λ (n : NodeModel). label_among W n.leaves a) same ∙ ap (λ (l : List LeafModel). label_among W l a) inner.leaves

      pub way_low : a / 2 ^ (bits - 1) % 2 ≡ 0 → IsOnWay t a (number + 1) (bits - 1)
      way_low even =
          let some = way_positive in
          let has : low.number ≡ block_number W low.bits a = inner.low_number ∙ omega (arith, half, even) ∙ sym (in_half low.bits deeper) in
          record {
            node = low;
            at = inner.low_at;
            bits_are = omega (arith, way.bits_are, ap (λ (n : NodeModel). n.bits) same, inner.low_bits, some);
            has = has;
            label = among ∙ label_low W low.bits low.number a low.leaves high.leaves inner.low_at.cut has;
          }

      pub way_high : (a / 2 ^ (bits - 1) % 2 ≡ 0 → ⊥) → IsOnWay t a upper (bits - 1)
      way_high odd =
          let some = way_positive in
          let has : high.number ≡ block_number W high.bits a = inner.high_number ∙ omega (arith, half, odd) ∙ sym (in_half high.bits deeper') in
          let from = address-first W high.bits high.number a (sym has) in
          let next : last_of W low.bits low.number + 1 ≡ first_of W high.bits high.number =
          halves_meet W low.bits high.bits inner.whole.number low.number high.number (deeper' ∙ sym deeper) inner.low_number inner.high_number in
          record {
            node = high;
            at = inner.high_at;
            bits_are = omega (arith, way.bits_are, ap (λ (n : NodeModel). n.bits) same, inner.high_bits, some);
            has = has;
            label = among ∙ label_high W low.bits low.number a low.leaves high.leaves inner.low_at.cut (omega (arith, from, next));
          }
