-- The leaves of stretches.
use Rattle.std.proofs.Common.{◌≡◌, ◌∙◌, ℕ, zero, suc, ◌+◌, ◌-◌, ◌*◌, ◌/◌, ◌^◌, ◌<◌, ◌≤◌, inl, inr, List, [], ◌∷◌, ◌++◌, Option, Some, None, All, Contains, IsSome, length, option_map, refl, sym, ap, subst, arith, length-append, true, false, true≢false}
use Rattle.std.proofs.Math.Nat.{zero-div}
use Rattle.std.proofs.lemmas.Bool.{cases_eq, cond-false, cond-true, eq-eqb, ne_eqb}
use Rattle.std.proofs.lemmas.List.Elements.{All-append, All-cons, All-contains, All-nil, All-weaker, Contains-append_left, Contains-push}
use Rattle.std.proofs.lemmas.Nat.{pow_pos, shr-shr}
use Rattle.prefix_keys.specs.Block.{block_number, first_of, last_of, width_of}
use Rattle.pmap_model.specs.MapModel.{MapModel, settled_label}
use Rattle.pmap_model.specs.Settled.{IsMapOf, ends_inside}
use Rattle.pmap_stretches.specs.Stretches.{AreStretches, HasEveryAddress, HoldsAddress, StretchesModel, count_begun, first_at, label_at, label_held, last_at}
use Rattle.pmap_model.specs.MapText.{mappings_of}
use Rattle.pmap_stretches.specs.Windows.{IsWindow, window_number}
use Rattle.pmap_model.specs.declared.label.LabelId.{LabelId}
use Rattle.pmap_model.specs.declared.statement.Statement.{Statement}
use Rattle.pmap_stretches.specs.declared.stretches.window.Window.{Window}
use Rattle.pmap_stretches.proofs.BlockHalves.{has_halves}
use Rattle.pmap_model.proofs.Blocks.{address-first, address-last, first_of-lower, pow-half}
use Rattle.pmap_model.proofs.Ends.{ends-halves, ends-unsettled_by, ends_most, halves-most}
use Rattle.pmap_stretches.proofs.Ranges.{held_index}
use Rattle.pmap_stretches.proofs.Settling.{Settles, stretch_labelled, window_settled, window_unsettled}
use Rattle.pmap_stretches.proofs.Windows.{divided_window, whole_window, window_some}
use Rattle.label_trie.specs.Leaves.{in_one, labelled_leaf, leaf_in, leaves_in}
use Rattle.label_trie.specs.TrieModel.{LeafModel, IsCut, IsSettledLeaf, IsUndivided}

-- one of the leaves lies in the block of n bits with the number q
pub record HasInside (leaves : List LeafModel) (n q : ℕ) : Type 0 where
  pub leaf : LeafModel
  pub contained : Contains leaves leaf
  pub deep : n ≤ leaf.bits
  pub within : leaf.number / 2 ^ (leaf.bits - n) ≡ q

-- the number of the block that is one bit shorter
outer_number : (number bits n : ℕ) → n < bits → number / 2 ^ (bits - n) ≡ number / 2 ^ (bits - suc n) / 2
outer_number number bits n below =
    let more : bits - n ≡ (bits - suc n) + 1 = omega arith in
    rw more (sym (shr-shr number (bits - suc n) 1))

tip_within : (n q : ℕ) → q / 2 ^ (n - n) ≡ q
tip_within n q = let none : n - n ≡ 0 = omega arith in rw none (omega arith)

half_inside : (n q : ℕ) (lower upper : List LeafModel) → HasInside lower (suc n) (2 * q) → HasInside (lower ++ upper) n q
half_inside n q lower upper f =
    let number = outer_number f.leaf.number f.leaf.bits n (omega (arith, f.deep)) in
    record {
      leaf = f.leaf;
      contained = Contains-append_left lower upper f.leaf f.contained;
      deep = omega (arith, f.deep);
      within = omega (arith, number, f.within);
    }

-- a divided block strictly contains a leaf
pub inner_unsettled : (m : MapModel) (n q : ℕ) (lower upper : List LeafModel) → HasInside lower (suc n) (2 * q) → All (IsUndivided m) (lower ++ upper) → settled_label m n q ≡ None
unfolding half_inside
inner_unsettled m n q lower upper low undivided =
    let f = half_inside n q lower upper low in
    let deep : n < low.leaf.bits = omega (arith, low.deep) in
    rw f.within at (All-contains (IsUndivided m) (lower ++ upper) f.leaf undivided f.contained n deep)

-- a leaf at or below the block of n bits with the number q; the map settles no larger block that contains the leaf
record IsLeafBelow (m : MapModel) (n q : ℕ) (leaf : LeafModel) : Type 0 where
  deep : n ≤ leaf.bits
  within : leaf.number / 2 ^ (leaf.bits - n) ≡ q
  settled : IsSettledLeaf m leaf
  undivided : (k : ℕ) → n ≤ k → k < leaf.bits → settled_label m k (leaf.number / 2 ^ (leaf.bits - k)) ≡ None

leaf_here : (m : MapModel) (label : Option LabelId) (n q : ℕ) → Settles m label n q → IsSome label → IsLeafBelow m n q (labelled_leaf n q label)
leaf_here m None n q f some = absurd (true≢false (sym some))
leaf_here m (Some id) n q f some = record {
  deep = omega arith;
  within = tip_within n q;
  settled = record { id = id.0; is = refl; known = f.0; settled = f.1 };
  undivided = λ k from to. absurd (omega (arith, from, to));
}

leaf_further : (m : MapModel) (n q b : ℕ) (leaf : LeafModel) → b < 2 → settled_label m n q ≡ None → IsLeafBelow m (suc n) (2 * q + b) leaf → IsLeafBelow m n q leaf
leaf_further m n q b leaf small open' f =
    let number = outer_number leaf.number leaf.bits n (omega (arith, f.deep)) in
    let within : leaf.number / 2 ^ (leaf.bits - n) ≡ q = omega (arith, number, f.within) in
    record {
      deep = omega (arith, f.deep);
      within = within;
      settled = f.settled;
      undivided = λ k from to. elim (cases_eq k n) [
        | inl same ↦ rw (same, within) open'
        | inr other ↦ f.undivided k (omega (arith, from, other)) to
      ];
    }

IsCut-append : (W from middle to : ℕ) (xs ys : List LeafModel) → IsCut W from middle xs → IsCut W middle to ys → IsCut W from to (xs ++ ys)
IsCut-append W from middle to [] ys front back = let e : from ≡ middle = front in rw e back
IsCut-append W from middle to (x ∷ xs) ys front back =
    (front.0, front.1, IsCut-append W (last_of W x.bits x.number + 1) middle to xs ys front.2 back)

-- where the upper half of a block ends, and where it begins
ends : (W n q P : ℕ) → 0 < P → 2 ^ (W - suc n) ≡ P → 2 ^ (W - n) ≡ P * 2 → last_of W (suc n) (2 * q + 1) ≡ last_of W n q
ends W n q P positive half whole = rw (half, whole) (omega arith)

pub meet : (W n q P : ℕ) → 0 < P → 2 ^ (W - n) ≡ P → last_of W n (2 * q) + 1 ≡ first_of W n (2 * q + 1)
meet W n q P positive whole = rw whole (omega arith)

abbrev pub CutsBlock : ℕ → ℕ → ℕ → List LeafModel → Type 0
CutsBlock W n q leaves = IsCut W (first_of W n q) (last_of W n q + 1) leaves

halves_cut : (W n q : ℕ) (lower upper : List LeafModel) → n < W → CutsBlock W (suc n) (2 * q) lower → CutsBlock W (suc n) (2 * q + 1) upper → CutsBlock W n q (lower ++ upper)
halves_cut W n q lower upper below front back =
    let P = 2 ^ (W - suc n) in
    let end = ends W n q P (pow_pos (W - suc n)) refl (pow-half W n below) in
    rw (← first_of-lower W n q below, ← end)
    (IsCut-append W (first_of W (suc n) (2 * q)) (first_of W (suc n) (2 * q + 1)) (last_of W (suc n) (2 * q + 1) + 1) lower upper
    (rw (meet W (suc n) q P (pow_pos (W - suc n)) refl) at front) back)

module _ (s : StretchesModel) (every : HasEveryAddress s) where
  abbrev W : ℕ
  W = width_of s.version

  module _ (w : Window) (is : IsWindow s w) where
    abbrev q : ℕ
    q = window_number s w

    pub first_held : count_begun s.firsts (first_of W w.len q) - 1 ≡ w.from
    first_held = ap (λ (a : ℕ). count_begun s.firsts a - 1) (sym is.block.first_is) ∙ held_index s every w.first w.from is.start

    last_held : count_begun s.firsts (last_of W w.len q) - 1 ≡ w.to
    last_held = ap (λ (a : ℕ). count_begun s.firsts a - 1) (sym is.block.last_is) ∙ held_index s every w.last w.to is.end

    one : leaf_in s w.len q ∷ [] ≡ labelled_leaf w.len q (label_at s w.from) ∷ []
    one = ap (λ (i : ℕ). labelled_leaf w.len q (label_at s i) ∷ []) first_held

    pub in_same : w.from ≡ w.to → in_one s w.len q ≡ true
    in_same same = eq-eqb _ _ (first_held ∙ same ∙ sym last_held)

    pub in_several : (w.from ≡ w.to → ⊥) → in_one s w.len q ≡ false
    in_several other = ne_eqb _ _ (λ same. other (sym first_held ∙ same ∙ last_held))

    -- a block in one stretch is a leaf
    pub one_leaf : (h : ℕ) → w.from ≡ w.to → leaves_in s h w.len q ≡ labelled_leaf w.len q (label_at s w.from) ∷ []
    one_leaf zero same = one
    one_leaf (suc h) same = cond-true (in_one s w.len q) (leaf_in s w.len q ∷ []) _ (in_same same) ∙ one

    -- any other is divided
    pub both_halves : (h : ℕ) → (w.from ≡ w.to → ⊥) → leaves_in s (suc h) w.len q ≡ leaves_in s h (suc w.len) (2 * q) ++ leaves_in s h (suc w.len) (2 * q + 1)
    both_halves h other = cond-false (in_one s w.len q) _ _ (in_several other)

    pub window_below : (w.from ≡ w.to → ⊥) → w.len < W
    window_below other =
        let some = window_some s every w is other in
        let first = is.block.first_is in
        let last = is.block.last_is in
        has_halves W w.len q is.within (omega arith)

  abbrev pub whole : Window
  whole = record { first = 0; last = last_at s (length s.firsts - 1); len = 0; from = 0; to = length s.firsts - 1 }

  pub whole_is : IsWindow s whole
  whole_is = let some = every.some in whole_window s every whole refl refl refl (omega arith) refl

  pub whole_number : window_number s whole ≡ 0
  whole_number = zero-div (2 ^ (W - 0))

  -- what holds of each leaf, and of a divided block if it holds of both halves, holds of every block
  module _ (Holds : ℕ → ℕ → List LeafModel → Type 0)
      (leaf : (w : Window) → IsWindow s w → w.from ≡ w.to → Holds w.len (window_number s w) (labelled_leaf w.len (window_number s w) (label_at s w.from) ∷ []))
      (joined : (w : Window) → IsWindow s w → (w.from ≡ w.to → ⊥) → (lower upper : List LeafModel) → Holds (suc w.len) (2 * window_number s w) lower
      → Holds (suc w.len) (2 * window_number s w + 1) upper → Holds w.len (window_number s w) (lower ++ upper)) where
    pub by_halves : (h : ℕ) (w : Window) → IsWindow s w → h + w.len ≡ W → Holds w.len (window_number s w) (leaves_in s h w.len (window_number s w))
    by_halves zero w is e = elim (cases_eq w.from w.to) [
      | inl same ↦ subst (Holds w.len (window_number s w)) (sym (one_leaf w is 0 same)) (leaf w is same)
      | inr other ↦ absurd (omega (arith, window_below w is other, e))
    ]
    by_halves (suc h) w is e = elim (cases_eq w.from w.to) [
      | inl same ↦ subst (Holds w.len (window_number s w)) (sym (one_leaf w is (suc h) same)) (leaf w is same)
      | inr other ↦
          let halves = divided_window s every w is other in
          let are = halves.2 in
          let next : w.len + 1 ≡ suc w.len = omega arith in
          let lower = rw (are.low_number, are.low_len, next) at (by_halves h halves.0 are.low_window (omega (arith, e, are.low_len))) in
          let upper = rw (are.high_number, are.high_len, next) at (by_halves h halves.1 are.high_window (omega (arith, e, are.high_len))) in
          subst (Holds w.len (window_number s w)) (sym (both_halves w is h other)) (joined w is other _ _ lower upper)
    ]

    -- and of the address space
    pub of_space : Holds 0 0 (leaves_in s W 0 0)
    of_space = rw whole_number at (by_halves W whole whole_is (omega arith))

  -- the leaves cut their block
  pub leaves_cut : (h : ℕ) (w : Window) → IsWindow s w → h + w.len ≡ W → CutsBlock W w.len (window_number s w) (leaves_in s h w.len (window_number s w))
  leaves_cut =
      by_halves (CutsBlock W) (λ w is same. (is.within, refl, refl))
      (λ w is other lower upper front back. halves_cut W w.len (window_number s w) lower upper (window_below w is other) front back)

  pub has_inside : (h : ℕ) (w : Window) → IsWindow s w → h + w.len ≡ W → HasInside (leaves_in s h w.len (window_number s w)) w.len (window_number s w)
  has_inside =
      by_halves (λ n q leaves. HasInside leaves n q)
      (λ w is same. record { leaf = _; contained = Contains-push [] _; deep = omega arith; within = tip_within w.len (window_number s w) })
      (λ w is other lower upper front back. half_inside w.len (window_number s w) lower upper front)

  pub space_cut : IsCut W 0 (2 ^ W) (leaves_in s W 0 0)
  space_cut =
      let all : W - 0 ≡ W = omega arith in
      let positive = pow_pos W in
      let from : 0 * 2 ^ W ≡ 0 = omega arith in
      let end : (0 + 1) * 2 ^ W - 1 + 1 ≡ 2 ^ W = omega arith in
      rw (all, from, end) at (rw whole_number at (leaves_cut W whole whole_is (omega arith)))

  -- what holds of each leaf holds of all
  pub each_leaf : (P : LeafModel → Type 0) → ((w : Window) → IsWindow s w → w.from ≡ w.to → P (labelled_leaf w.len (window_number s w) (label_at s w.from))) → All P (leaves_in s W 0 0)
  each_leaf P leaf =
      of_space (λ n q leaves. All P leaves) (λ w is same. All-cons P _ [] (leaf w is same) (All-nil P)) (λ w is other lower upper front back. All-append P lower upper front back)

  -- a leaf has the label of each of its addresses
  abbrev pub HasItsLabel : LeafModel → Type 0
  HasItsLabel leaf = (a : ℕ) → leaf.number ≡ block_number W leaf.bits a → leaf.label ≡ option_map (λ id. id.0) (label_held s a)

  pub leaves_held : All HasItsLabel (leaves_in s W 0 0)
  leaves_held = each_leaf HasItsLabel (λ w is same a inside.
      let from = address-first W w.len (window_number s w) a (sym inside) in
      let to = address-last W w.len (window_number s w) a (sym inside) in
      let last : last_at s w.from ≡ last_at s w.to = ap (last_at s) same in
      let holds : HoldsAddress s a w.from = record {
        index = is.start.index;
        from = omega (arith, from, is.block.first_is, is.start.from);
        to = omega (arith, to, is.block.last_is, is.end.to, last);
      } in
      sym (ap (λ (i : ℕ). option_map (λ id. id.0) (label_at s i)) (held_index s every a w.from holds)))

  -- If a sum over blocks is at least that over both halves, and some for each divided block, the leaves are bounded by it.
  module _ (sum : ℕ → ℕ → ℕ) (halves : (n q : ℕ) → n < W → sum (suc n) (2 * q) + sum (suc n) (2 * q + 1) ≤ sum n q)
      (some : (w : Window) → IsWindow s w → (w.from ≡ w.to → ⊥) → 0 < sum w.len (window_number s w)) where
    pub leaves_most : length (leaves_in s W 0 0) ≤ 1 + sum 0 0 * (W - 0)
    leaves_most = of_space (λ n q leaves. length leaves ≤ 1 + sum n q * (W - n)) (λ w is same. omega arith) (λ w is other lower upper front back.
        let n : ℕ = w.len in
        let q : ℕ = window_number s w in
        let below = window_below w is other in
        let host : suc (W - suc n) ≡ W - n = omega arith in
        let most = halves-most (sum (suc n) (2 * q)) (sum (suc n) (2 * q + 1)) (sum n q) (W - suc n) (halves n q below) (some w is other) in
        subst (λ (h : ℕ). length (lower ++ upper) ≤ 1 + sum n q * h) host (omega (arith, length-append lower upper, front, back, most)))

-- The leaves of the stretches of statements.
module _ (s : StretchesModel) (ss : List Statement) (default : Option LabelId) (are : AreStretches ss default s) where
  pub map_bounded : 2 * length (leaves_in s (width_of s.version) 0 0) ≤ 2 + 4 * width_of s.version * length ss
  map_bounded =
      let W = width_of s.version in
      let ms = mappings_of [] ss in
      let most = leaves_most s are.every (ends_inside W ss) (λ n q below. ends-halves W n q ms below)
      (λ w is other. ends-unsettled_by W w.len (window_number s w) [] ms _ refl (window_unsettled s w is ss default are other [] [])) in
      omega (arith, most, ends_most W ss)

  -- each is settled by a map of the statements, and no block above it is
  module _ (some : IsSome default) (m : MapModel) (map : IsMapOf (width_of s.version) ss default m) where
    leaves_below : All (IsLeafBelow m 0 0) (leaves_in s (width_of s.version) 0 0)
    leaves_below = of_space s are.every (λ n q leaves. All (IsLeafBelow m n q) leaves)
        (λ w is same. All-cons (IsLeafBelow m w.len (window_number s w)) _ [] (leaf_here m (label_at s w.from) w.len (window_number s w) (window_settled s w is ss default are same m map)
        (stretch_labelled (width_of s.version) ss default (first_at s w.from) (last_at s w.from) (label_at s w.from) (are.each w.from is.start.index) some)) (All-nil _))
        (λ w is other lower upper front back.
        let n : ℕ = w.len in
        let q : ℕ = window_number s w in
        let none : settled_label m n q ≡ None = rw (map.width, map.mappings) (window_unsettled s w is ss default are other m.table m.fallback) in
        All-append (IsLeafBelow m n q) lower upper
        (All-weaker (IsLeafBelow m (suc n) (2 * q)) (IsLeafBelow m n q) (λ leaf g. leaf_further m n q 0 leaf (omega arith) none (let e : 2 * q ≡ 2 * q + 0 = omega arith in rw e at g)) lower front)
        (All-weaker (IsLeafBelow m (suc n) (2 * q + 1)) (IsLeafBelow m n q) (λ leaf g. leaf_further m n q 1 leaf (omega arith) none g) upper back))

    pub leaves_settled : All (IsSettledLeaf m) (leaves_in s (width_of s.version) 0 0)
    leaves_settled = All-weaker (IsLeafBelow m 0 0) (IsSettledLeaf m) (λ leaf g. g.settled) _ leaves_below

    pub leaves_undivided : All (IsUndivided m) (leaves_in s (width_of s.version) 0 0)
    leaves_undivided = All-weaker (IsLeafBelow m 0 0) (IsUndivided m) (λ leaf g k to. g.undivided k (omega arith) to) _ leaves_below
