-- The trie of a prefix list's statements.
use Rattle.std.proofs.Common.{◌≡◌, ℕ, suc, ◌+◌, ◌-◌, ◌*◌, ◌/◌, ◌<◌, ◌≤◌, ◌==◌, ◌^◌, ◌&&◌, inl, inr, true, List, [], ◌∷◌, None, map, length, nat_lt, sym, ap, subst, ◌∙◌, arith, All, Contains, mul-div_cancel, pow_pos}
use Rattle.std.proofs.Math.Nat.{mul-le-mul_right}
use Rattle.std.proofs.lemmas.Bool.Decides.{nat_tests}
use Rattle.std.proofs.lemmas.List.{length-map}
use Rattle.std.proofs.lemmas.List.Elements.{All-weaker}
use Rattle.prefix_keys.specs.Block.{block_number, first_of, width_of}
use Rattle.pmap_model.specs.ListModel.{ListModel, Prefix, lies_inside}
use Rattle.pmap_model.specs.MapModel.{Label}
use Rattle.pmap_model.specs.PrefixList.{list_of, prefix_of, AreShortestFirst}
use Rattle.pmap_model.specs.Settled.{one_if}
use Rattle.pmap_stretches.specs.Stretches.{AreStretches, HoldsAddress, StretchesModel, last_at}
use Rattle.pmap_stretches.specs.Windows.{IsWindow, window_number}
use Rattle.pmap_model.specs.declared.prefix_list.PrefixList.{PrefixList}
use Rattle.pmap_model.specs.declared.statement.Statement.{Statement}
use Rattle.pmap_stretches.specs.declared.stretches.window.Window.{Window}
use Rattle.label_trie.specs.Leaves.{leaves_in}
use Rattle.label_trie.specs.TrieModel.{IsLeafSettledByList, LeafModel}
use Rattle.pmap_model.proofs.Blocks.{block_number-half}
use Rattle.pmap_stretches.proofs.Decided.{held_seen, split_has_inside}
use Rattle.pmap_model.proofs.Finds.{Contains-cases, Contains-nil}
use Rattle.pmap_stretches.proofs.ListPainted.{list_blocks}
use Rattle.pmap_stretches.proofs.Longest.{AreBlocks, known_seen, label_seen, none_inside}
use Rattle.pmap_stretches.proofs.Painted.{IsSeen}
use Rattle.pmap_stretches.proofs.Ranges.{ends_before, held_fits}
use Rattle.label_trie.proofs.Leaves.{each_leaf, leaves_most}

-- the label is seen at the leaf
abbrev IsSeenLeaf : ℕ → List Label → List Prefix → LeafModel → Type 0
IsSeenLeaf W table ps leaf = IsSeen W table ps leaf.bits leaf.number leaf.label

-- a leaf at which the list's label is seen is settled by the list
leaf_decided : (l : ListModel) (leaf : LeafModel) → AreBlocks (width_of l.version) l.prefixes
    → IsSeen (width_of l.version) l.table l.prefixes leaf.bits leaf.number leaf.label → IsLeafSettledByList l leaf
leaf_decided l leaf blocks f =
    let W = width_of l.version in
    record {
      inside = none_inside W l.table l.prefixes leaf.bits leaf.number leaf.label blocks f;
      longest = label_seen W l.table l.prefixes leaf.bits leaf.number (first_of W leaf.bits leaf.number) (suc leaf.bits) leaf.label blocks
          (sym (mul-div_cancel leaf.number (pow_pos (W - leaf.bits)))) (λ bits most fits. omega (arith, most)) f;
      known = known_seen W l.table l.prefixes leaf.bits leaf.number leaf.label f;
    }

-- the number of prefixes strictly inside a block
inside : ℕ → List Prefix → ℕ → ℕ → ℕ
inside W [] n q = 0
inside W (p ∷ ps) n q = one_if (lies_inside W n q p) + inside W ps n q

-- a prefix inside a half is inside the block, and not in the other half
inside-one : (n k x q : ℕ) → one_if (nat_lt (suc n) k && x == 2 * q) + one_if (nat_lt (suc n) k && x == 2 * q + 1) ≤ one_if (nat_lt n k && x / 2 == q)
inside-one n k x q = grind (arith, nat_tests)

inside-halves : (W : ℕ) (ps : List Prefix) (n q : ℕ) → n < W → inside W ps (suc n) (2 * q) + inside W ps (suc n) (2 * q + 1) ≤ inside W ps n q
unfolding inside
inside-halves W [] n q below = omega arith
inside-halves W (p ∷ ps) n q below =
    let here = rw (← (block_number-half W n p.start below)) at (inside-one n p.bits (block_number W (suc n) p.start) q) in
    let rest = inside-halves W ps n q below in
    omega arith

inside-listed : (W n q : ℕ) (ps : List Prefix) (p : Prefix) → Contains ps p → lies_inside W n q p ≡ true → 0 < inside W ps n q
unfolding inside
inside-listed W n q [] p listed is = absurd (Contains-nil p listed)
inside-listed W n q (r ∷ ps) p listed is = elim (Contains-cases r ps p listed) [
  | inl own ↦ let one = ap one_if (ap (lies_inside W n q) own ∙ is) in omega (arith, one)
  | inr later ↦ let rest = inside-listed W n q ps p later is in omega arith
]

inside-most : (W : ℕ) (ps : List Prefix) (n q : ℕ) → inside W ps n q ≤ length ps
unfolding inside
inside-most W [] n q = omega arith
inside-most W (p ∷ ps) n q =
    let one : one_if (lies_inside W n q p) ≤ 1 = grind arith in
    let rest = inside-most W ps n q in
    omega arith

module _ (l : PrefixList) (s : StretchesModel) (version : s.version ≡ l.version) (ss : List Statement) (first : AreShortestFirst l.entries ss) (are : AreStretches ss None s) where
  abbrev W : ℕ
  W = width_of s.version

  abbrev ps : List Prefix
  ps = map (prefix_of l.labels) l.entries

  starts : (w : Window) → IsWindow s w → HoldsAddress s (first_of W w.len (window_number s w)) w.from
  starts w is = subst (λ (a : ℕ). HoldsAddress s a w.from) is.block.first_is is.start

  -- the label that is seen at each leaf is the leaf's
  leaves_seen : All (IsSeenLeaf W l.labels ps) (leaves_in s W 0 0)
  leaves_seen =
      each_leaf s are.every (IsSeenLeaf W l.labels ps) (λ w is same.
      held_seen l s version ss first are w.len (window_number s w) w.from (starts w is)
      (subst (λ (a : ℕ). a ≤ last_at s w.from) is.block.last_is (subst (λ (i : ℕ). w.last ≤ last_at s i) (sym same) is.end.to)))

  -- so each leaf is settled by the list
  pub list_decided : All (IsLeafSettledByList (list_of l)) (leaves_in s W 0 0)
  list_decided =
      All-weaker (IsSeenLeaf W l.labels ps) (IsLeafSettledByList (list_of l))
      (λ leaf g. leaf_decided (list_of l) leaf (list_blocks l) (rw version at g)) (leaves_in s W 0 0) leaves_seen

  pub list_bounded : 2 * length (leaves_in s W 0 0) ≤ 2 + 2 * W * length l.entries
  list_bounded =
      let few = leaves_most s are.every (inside W ps) (inside-halves W ps) (λ w is other.
      let n : ℕ = w.len in
      let q : ℕ = window_number s w in
      let beyond : last_at s w.from < w.last = omega (arith, ends_before s are.every w.from w.to (omega (arith, is.ordered, other)) is.end.index, is.end.from) in
      let found = split_has_inside l s version ss first are n q w.from (starts w is) is.within (subst (λ (a : ℕ). last_at s w.from < a) is.block.last_is beyond)
      (subst (λ (a : ℕ). a < 2 ^ W) is.block.last_is (held_fits s are.every w.last w.to is.end)) in
      inside-listed W n q ps found.one found.listed found.inside) in
      let most = subst (λ (k : ℕ). inside W ps 0 0 * W ≤ k * W) (length-map l.entries (prefix_of l.labels)) (mul-le-mul_right W (inside-most W ps 0 0)) in
      let all : W - 0 ≡ W = omega arith in
      omega (arith, rw all at few, most)
