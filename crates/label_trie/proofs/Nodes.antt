-- The nodes of stretches and how they are stored.
use Rattle.std.proofs.Common.{◌≡◌, ◌∙◌, ℕ, zero, suc, ◌+◌, ◌-◌, ◌*◌, ◌/◌, ◌^◌, ◌<◌, ◌≤◌, Bool, true, false, inl, inr, cond, List, [], ◌∷◌, ◌++◌, None, Option, Some, All, length, slice_get, refl, sym, ap, subst, arith, length-append, true≢false}
use Rattle.std.proofs.lemmas.Bool.{cases_eq, cases_lt, cond-false, cond-true}
use Rattle.std.proofs.Math.Nat.{zero-div}
use Rattle.prefix_keys.specs.Block.{first_of, width_of}
use Rattle.pmap_stretches.specs.Stretches.{HasEveryAddress, StretchesModel, label_at, label_held}
use Rattle.pmap_stretches.specs.Windows.{AreHalvesOf, IsWindow, window_number}
use Rattle.pmap_model.specs.declared.label.LabelId.{LabelId}
use Rattle.pmap_stretches.specs.declared.stretches.window.Window.{Window}
use Rattle.pmap_stretches.proofs.Windows.{divided_window}
use Rattle.label_trie.specs.Leaves.{in_one, labelled_leaf, leaf_in, leaves_in, leaves_of}
use Rattle.label_trie.specs.Nodes.{AreStored, is_stored_leaf, stored_label, leaf_stored, leaves_from, trie_node_from, nodes_from, stored_at, stored_in, stored_of, trie_in, upper_of}
use Rattle.label_trie.specs.Stored.{IsInnerAt, IsNodeAt, IsStoredAs}
use Rattle.label_trie.specs.TrieModel.{IsUndivided, LeafModel, NodeModel, TrieModel}
use Rattle.label_trie.specs.declared.node.TrieNode.{TrieNode}
use Rattle.label_trie.specs.declared.node.TrieNode.TheVariants.{Inner, Unlabelled}
use Rattle.label_trie.proofs.Leaves.{CutsBlock, HasInside, both_halves, first_held, has_inside, in_same, in_several, inner_unsettled, leaves_cut, whole, whole_is, whole_number, window_below}
use Rattle.label_trie.proofs.Sublists.{IsAt, at-get, at-head, at-left, at-rest, at-right, at-start}

-- There are twice as many nodes as leaves, less one.
twice : {X Y : Type 0} (b : Bool) (leaf node : X) (own : Y) (low high : List X) (lower upper : List Y) → length low + 1 ≡ 2 * length lower → length high + 1 ≡ 2 * length upper
    → length (cond b (leaf ∷ []) (node ∷ (low ++ high))) + 1 ≡ 2 * length (cond b (own ∷ []) (lower ++ upper))
twice true leaf node own low high lower upper l h = refl
twice false leaf node own low high lower upper l h = omega (arith, l, h, length-append low high, length-append lower upper)

pub length-stored : (s : StretchesModel) (h n q k : ℕ) → length (stored_in s h n q k) + 1 ≡ 2 * length (leaves_in s h n q)
length-stored s zero n q k = refl
length-stored s (suc h) n q k =
    twice (in_one s n q) _ _ (leaf_in s n q) _ _ _ _
    (length-stored s h (suc n) (2 * q) (k + 1)) (length-stored s h (suc n) (2 * q + 1) (k + 2 * length (leaves_in s h (suc n) (2 * q))))

length-read : (items : List TrieNode) (h n q k : ℕ) → length (nodes_from items h n q k) + 1 ≡ 2 * length (leaves_from items h n q k)
length-read items zero n q k = refl
length-read items (suc h) n q k =
    twice (is_stored_leaf (stored_at items k)) (trie_node_from items (suc h) n q k) (trie_node_from items (suc h) n q k) (labelled_leaf n q (stored_label (stored_at items k))) _ _ _ _
    (length-read items h (suc n) (2 * q) (k + 1)) (length-read items h (suc n) (2 * q + 1) (upper_of (stored_at items k)))

stored-leaf : (o : Option LabelId) → stored_label (leaf_stored o) ≡ o
stored-leaf None = refl
stored-leaf (Some id) = refl

stored-is_leaf : (o : Option LabelId) → is_stored_leaf (leaf_stored o) ≡ true
stored-is_leaf None = refl
stored-is_leaf (Some id) = refl

-- Nodes that have those of a block from the number k on are read as the block's.
module _ (s : StretchesModel) (items : List TrieNode) where
  abbrev leaf_label : ℕ → ℕ → Option LabelId
  leaf_label n q = label_held s (first_of (width_of s.version) n q)

  -- the number of the upper half
  abbrev upper : ℕ → ℕ → ℕ → ℕ → ℕ
  upper h n q k = k + 2 * length (leaves_in s h (suc n) (2 * q))

  abbrev lows : ℕ → ℕ → ℕ → ℕ → List TrieNode
  lows h n q k = stored_in s h (suc n) (2 * q) (k + 1)

  abbrev highs : ℕ → ℕ → ℕ → ℕ → List TrieNode
  highs h n q k = stored_in s h (suc n) (2 * q + 1) (upper h n q k)

  low_at : (h n q k : ℕ) → IsAt items k (Inner (upper h n q k) ∷ (lows h n q k ++ highs h n q k)) → IsAt items (k + 1) (lows h n q k)
  low_at h n q k here = at-left items (k + 1) _ (highs h n q k) (at-rest items k _ _ here)

  high_at : (h n q k : ℕ) → IsAt items k (Inner (upper h n q k) ∷ (lows h n q k ++ highs h n q k)) → IsAt items (upper h n q k) (highs h n q k)
  high_at h n q k here =
      let index : k + 1 + length (lows h n q k) ≡ upper h n q k = omega (arith, length-stored s h (suc n) (2 * q) (k + 1)) in
      subst (λ (j : ℕ). IsAt items j (highs h n q k)) index (at-right items (k + 1) (lows h n q k) (highs h n q k) (at-rest items k _ _ here))

  pub leaves-read : (h n q k : ℕ) → IsAt items k (stored_in s h n q k) → leaves_from items h n q k ≡ leaves_in s h n q
  leaves-read zero n q k here =
      ap (λ (o : Option LabelId). labelled_leaf n q o ∷ []) (ap stored_label (at-get items k (leaf_stored (leaf_label n q)) [] Unlabelled here) ∙ stored-leaf (leaf_label n q))
  leaves-read (suc h) n q k here = by (in_one s n q) here (leaves-read h (suc n) (2 * q) (k + 1)) (leaves-read h (suc n) (2 * q + 1) (upper h n q k))
    where
      by : (b : Bool) → IsAt items k (cond b (leaf_stored (leaf_label n q) ∷ []) (Inner (upper h n q k) ∷ (lows h n q k ++ highs h n q k)))
          → (IsAt items (k + 1) (lows h n q k) → leaves_from items h (suc n) (2 * q) (k + 1) ≡ leaves_in s h (suc n) (2 * q))
          → (IsAt items (upper h n q k) (highs h n q k) → leaves_from items h (suc n) (2 * q + 1) (upper h n q k) ≡ leaves_in s h (suc n) (2 * q + 1))
          → leaves_from items (suc h) n q k ≡ cond b (leaf_in s n q ∷ []) (leaves_in s h (suc n) (2 * q) ++ leaves_in s h (suc n) (2 * q + 1))
      by true here lower higher =
          let is = at-get items k (leaf_stored (leaf_label n q)) [] Unlabelled here in
          cond-true (is_stored_leaf (stored_at items k)) _ _ (ap is_stored_leaf is ∙ stored-is_leaf (leaf_label n q))
          ∙ ap (λ (o : Option LabelId). labelled_leaf n q o ∷ []) (ap stored_label is ∙ stored-leaf (leaf_label n q))
      by false here lower higher =
          let is = at-get items k (Inner (upper h n q k)) _ Unlabelled here in
          cond-false (is_stored_leaf (stored_at items k)) _ _ (ap is_stored_leaf is)
          ∙ (λ i. lower (low_at h n q k here) i ++ leaves_from items h (suc n) (2 * q + 1) (upper_of (is i)))
          ∙ ap (λ (l : List LeafModel). leaves_in s h (suc n) (2 * q) ++ l) (higher (high_at h n q k here))

-- the window of the block of n bits with the number q
pub record HasWindow (s : StretchesModel) (n q : ℕ) : Type 0 where
  pub window : Window
  pub is : IsWindow s window
  pub len : window.len ≡ n
  pub number : window_number s window ≡ q

module _ (s : StretchesModel) (every : HasEveryAddress s) where
  abbrev W : ℕ
  W = width_of s.version

  module _ (h n q : ℕ) (has : HasWindow s n q) (room : h + n ≡ W) where
    abbrev w : Window
    w = has.window

    block_cut : CutsBlock W n q (leaves_in s h n q)
    block_cut = rw (has.number, has.len) at (leaves_cut s every h w has.is (omega (arith, has.len, room)))

    block_inside : HasInside (leaves_in s h n q) n q
    block_inside = rw (has.number, has.len) at (has_inside s every h w has.is (omega (arith, has.len, room)))

  halved : (n q : ℕ) → HasWindow s n q → in_one s n q ≡ false → HasWindow s (suc n) (2 * q) × HasWindow s (suc n) (2 * q + 1) × (n < W)
  halved n q has several =
      let w = has.window in
      let other : w.from ≡ w.to → ⊥ = λ same. true≢false (sym (rw (has.number, has.len) at (in_same s every w has.is same)) ∙ several) in
      let halves = divided_window s every w has.is other in
      let are = halves.2 in
      let below = window_below s every w has.is other in (
        record { window = halves.0; is = are.low_window; len = omega (arith, are.low_len, has.len); number = are.low_number ∙ ap (λ (x : ℕ). 2 * x) has.number },
        record { window = halves.1; is = are.high_window; len = omega (arith, are.high_len, has.len); number = are.high_number ∙ ap (λ (x : ℕ). 2 * x + 1) has.number },
        omega (arith, below, has.len),
      )

  module _ (items : List TrieNode) where
    abbrev pub trie_of : TrieModel
    trie_of = record { version = s.version; leaves = leaves_in s W 0 0; nodes = nodes_from items W 0 0 0 }

    -- a block with its nodes and leaves among those of the trie
    record AreHere (h n q k : ℕ) : Type 0 where
      has : HasWindow s n q
      room : h + n ≡ W
      stored : IsAt items k (stored_in s h n q k)
      nodes : IsAt (nodes_from items W 0 0 0) k (nodes_from items h n q k)
      index : ℕ
      leaves : IsAt (leaves_in s W 0 0) index (leaves_in s h n q)

    node_at : (h n q k : ℕ) → AreHere h n q k → IsNodeAt trie_of k (record { bits = n; number = q; leaves = leaves_in s h n q })
    node_at h n q k are = record {
      there = first h are.nodes ∙ ap (λ (l : List LeafModel). Some (record { bits = n; number = q; leaves = l })) (leaves-read s items h n q k are.stored);
      within = omega (arith, are.room);
      cut = block_cut h n q are.has are.room;
      before = are.leaves.before;
      after = are.leaves.after;
      among = are.leaves.all_is;
    }
      where
        either : (b : Bool) (all : List NodeModel) (node : NodeModel) (rest : List NodeModel) → IsAt all k (cond b (node ∷ []) (node ∷ rest)) → slice_get all k ≡ Some node
        either true all node rest at = at-head all k node [] at
        either false all node rest at = at-head all k node rest at

        first : (h : ℕ) → IsAt (nodes_from items W 0 0 0) k (nodes_from items h n q k) → slice_get (nodes_from items W 0 0 0) k ≡ Some (trie_node_from items h n q k)
        first zero at = at-head _ k _ _ at
        first (suc h) at = either (is_stored_leaf (stored_at items k)) _ (trie_node_from items (suc h) n q k) _ at

    leaf_at : (n q k : ℕ) → IsNodeAt trie_of k (record { bits = n; number = q; leaves = leaf_in s n q ∷ [] })
        → stored_at items k ≡ leaf_stored (label_held s (first_of W n q)) → IsStoredAs trie_of k (stored_at items k)
    leaf_at n q k node is = subst (IsStoredAs trie_of k) (sym is) (by (label_held s (first_of W n q)) node)
      where
        by : (o : Option LabelId) → IsNodeAt trie_of k (record { bits = n; number = q; leaves = labelled_leaf n q o ∷ [] }) → IsStoredAs trie_of k (leaf_stored o)
        by None node = record { leaf = labelled_leaf n q None; at = node; label_is = refl }
        by (Some id) node = record { leaf = labelled_leaf n q (Some id); at = node; label_is = refl }

    -- the node with the number j is stored, if it is one of the block's
    abbrev AreEach : ℕ → ℕ → ℕ → ℕ → ℕ → Type 0
    AreEach j h n q k = AreHere h n q k → k ≤ j → j + 1 < k + 2 * length (leaves_in s h n q) → IsStoredAs trie_of j (stored_at items j)

    -- each of the block's nodes is stored
    stored_each : (j h n q k : ℕ) → AreEach j h n q k
    stored_each j zero n q k are from to =
        let same : k ≡ j = omega (arith, from, to) in
        subst (λ (i : ℕ). IsStoredAs trie_of i (stored_at items i)) same
        (leaf_at n q k (node_at zero n q k are) (at-get items k _ [] Unlabelled are.stored))
    stored_each j (suc h) n q k are from to =
        by (in_one s n q) refl (stored_each j h (suc n) (2 * q) (k + 1)) (stored_each j h (suc n) (2 * q + 1) (upper s items h n q k))
      where
        by : (b : Bool) → in_one s n q ≡ b → AreEach j h (suc n) (2 * q) (k + 1) → AreEach j h (suc n) (2 * q + 1) (upper s items h n q k) → IsStoredAs trie_of j (stored_at items j)
        by true one low_each high_each =
            let node = rw one at (node_at (suc h) n q k are) in
            let few = rw one at to in
            let same : k ≡ j = omega (arith, from, few) in
            subst (λ (i : ℕ). IsStoredAs trie_of i (stored_at items i)) same (leaf_at n q k node (at-get items k _ [] Unlabelled (rw one at are.stored)))
        by false several low_each high_each =
            let stored = rw several at are.stored in
            let is = at-get items k (Inner (upper s items h n q k)) _ Unlabelled stored in
            let nodes = rw is at are.nodes in
            let leaves = rw several at are.leaves in
            let halves = halved n q are.has several in
            let low_stored = low_at s items h n q k stored in
            let count : k + 1 + length (nodes_from items h (suc n) (2 * q) (k + 1)) ≡ upper s items h n q k =
            omega (arith, length-read items h (suc n) (2 * q) (k + 1), ap length (leaves-read s items h (suc n) (2 * q) (k + 1) low_stored)) in
            let lower : AreHere h (suc n) (2 * q) (k + 1) = record {
              has = halves.0;
              room = omega (arith, are.room);
              stored = low_stored;
              nodes = at-left _ (k + 1) _ _ (at-rest _ k _ _ nodes);
              index = are.index;
              leaves = at-left _ are.index _ _ leaves;
            } in
            let higher : AreHere h (suc n) (2 * q + 1) (upper s items h n q k) = record {
              has = halves.1;
              room = omega (arith, are.room);
              stored = high_at s items h n q k stored;
              nodes = subst (λ (i : ℕ). IsAt (nodes_from items W 0 0 0) i (nodes_from items h (suc n) (2 * q + 1) (upper s items h n q k))) count (at-right _ (k + 1) _ _ (at-rest _ k _ _ nodes));
              index = are.index + length (leaves_in s h (suc n) (2 * q));
              leaves = at-right _ are.index _ _ leaves;
            } in
            let both : leaves_in s (suc h) n q ≡ leaves_in s h (suc n) (2 * q) ++ leaves_in s h (suc n) (2 * q + 1) = cond-false (in_one s n q) _ _ several in
            let inner : IsInnerAt trie_of k (upper s items h n q k) = record {
              whole = record { bits = n; number = q; leaves = leaves_in s (suc h) n q };
              low = record { bits = suc n; number = 2 * q; leaves = leaves_in s h (suc n) (2 * q) };
              high = record { bits = suc n; number = 2 * q + 1; leaves = leaves_in s h (suc n) (2 * q + 1) };
              whole_at = node_at (suc h) n q k are;
              low_at = node_at h (suc n) (2 * q) (k + 1) lower;
              high_at = node_at h (suc n) (2 * q + 1) (upper s items h n q k) higher;
              low_bits = omega arith;
              high_bits = omega arith;
              low_number = refl;
              high_number = refl;
              leaves = both;
              unsettled = λ m undivided. inner_unsettled m n q _ _ (block_inside h (suc n) (2 * q) halves.0 (omega (arith, are.room)))
                  (subst (λ (l : List LeafModel). All (IsUndivided m) l) both undivided);
              upper_is = refl;
            } in
            elim (cases_eq k j) [
              | inl same ↦ subst (λ (i : ℕ). IsStoredAs trie_of i (stored_at items i)) same (subst (IsStoredAs trie_of k) (sym is) inner)
              | inr other ↦ elim (cases_lt j (upper s items h n q k)) [
                | inl low ↦ low_each lower (omega (arith, from, other)) (omega (arith, low))
                | inr high ↦ high_each higher high (omega (arith, to, ap length both, length-append (leaves_in s h (suc n) (2 * q)) (leaves_in s h (suc n) (2 * q + 1))))
              ]
            ]

    module _ (is : items ≡ stored_in s W 0 0 0) where
      abbrev here : IsAt items 0 (stored_in s W 0 0 0)
      here = at-start items (stored_in s W 0 0 0) is

      pub trie_read : trie_in s.version items ≡ trie_of
      trie_read = λ i. record { version = s.version; leaves = leaves-read s items W 0 0 0 here i; nodes = nodes_from items W 0 0 0 }

      -- the trie of stretches, as it is stored
      pub all_stored : 2 * length (leaves_in s W 0 0) < 2 ^ 32 → AreStored trie_of items
      all_stored few =
          let are : AreHere W 0 0 0 = record {
            has = record { window = whole s every; is = whole_is s every; len = refl; number = whole_number s every };
            room = omega arith;
            stored = here;
            nodes = at-start _ _ refl;
            index = 0;
            leaves = at-start _ _ refl;
          } in
          let count : length items + 1 ≡ 2 * length (leaves_in s W 0 0) = omega (arith, ap length is, length-stored s W 0 0 0) in
          let nodes : length (nodes_from items W 0 0 0) + 1 ≡ 2 * length (leaves_in s W 0 0) =
          omega (arith, length-read items W 0 0 0, ap length (leaves-read s items W 0 0 0 here)) in
          record {
            each = λ k below. stored_each k W 0 0 0 are (omega arith) (omega (arith, below, count));
            count = omega (arith, count, nodes);
            leaves = nodes;
            few = omega (arith, nodes, few);
            root = node_at W 0 0 0 are;
          }

  -- The nodes of a window as they are stored.
  module _ (w : Window) (is : IsWindow s w) where
    pub stored_one : (k : ℕ) → w.from ≡ w.to → stored_of s w k ≡ leaf_stored (label_at s w.from) ∷ []
    stored_one k same = by (W - w.len) ∙ ap (λ (i : ℕ). leaf_stored (label_at s i) ∷ []) (first_held s every w is)
      where
        by : (h : ℕ) → stored_in s h w.len (window_number s w) k ≡ leaf_stored (label_held s (first_of W w.len (window_number s w))) ∷ []
        by zero = refl
        by (suc h) = cond-true (in_one s w.len (window_number s w)) _ _ (in_same s every w is same)

    module _ (other : w.from ≡ w.to → ⊥) (low high : Window) (are : AreHalvesOf s w low high) where
      abbrev h : ℕ
      h = width_of s.version - suc w.len

      more : W - w.len ≡ suc h
      more = let below = window_below s every w is other in omega arith

      low_host : h ≡ W - low.len
      low_host = omega (arith, are.low_len)

      low_len : suc w.len ≡ low.len
      low_len = omega (arith, are.low_len)

      high_host : h ≡ W - high.len
      high_host = omega (arith, are.high_len)

      high_len : suc w.len ≡ high.len
      high_len = omega (arith, are.high_len)

      low_leaves : leaves_in s h (suc w.len) (2 * window_number s w) ≡ leaves_of s low
      low_leaves = λ i. leaves_in s (low_host i) (low_len i) (sym are.low_number i)

      pub leaves_both : length (leaves_of s w) ≡ length (leaves_of s low) + length (leaves_of s high)
      leaves_both =
          ap (λ (h : ℕ). length (leaves_in s h w.len (window_number s w))) more ∙ ap length (both_halves s every w is h other)
          ∙ (λ i. length (low_leaves i ++ leaves_in s (high_host i) (high_len i) (sym are.high_number i))) ∙ length-append (leaves_of s low) (leaves_of s high)

      pub stored_both : (k : ℕ) → stored_of s w k ≡ Inner (k + 2 * length (leaves_of s low)) ∷ (stored_of s low (k + 1) ++ stored_of s high (k + 2 * length (leaves_of s low)))
      stored_both k =
          let upper : k + 2 * length (leaves_in s h (suc w.len) (2 * window_number s w)) ≡ k + 2 * length (leaves_of s low) = ap (λ (l : List LeafModel). k + 2 * length l) low_leaves in
          ap (λ (h : ℕ). stored_in s h w.len (window_number s w) k) more ∙ cond-false (in_one s w.len (window_number s w)) _ _ (in_several s every w is other)
          ∙ (λ i. Inner (upper i) ∷ (stored_in s (low_host i) (low_len i) (sym are.low_number i) (k + 1) ++ stored_in s (high_host i) (high_len i) (sym are.high_number i) (upper i)))

  pub whole_stored : (w : Window) → w.first ≡ 0 → w.len ≡ 0 → stored_of s w 0 ≡ stored_in s W 0 0 0
  whole_stored w first len =
      let P = 2 ^ (W - w.len) in
      let room : W - w.len ≡ W = omega (arith, len) in
      let number : window_number s w ≡ 0 = ap (λ (a : ℕ). a / P) first ∙ zero-div P in
      λ i. stored_in s (room i) (len i) (number i) 0

  pub whole_leaves : (w : Window) → w.first ≡ 0 → w.len ≡ 0 → leaves_of s w ≡ leaves_in s W 0 0
  whole_leaves w first len =
      let P = 2 ^ (W - w.len) in
      let room : W - w.len ≡ W = omega (arith, len) in
      let number : window_number s w ≡ 0 = ap (λ (a : ℕ). a / P) first ∙ zero-div P in
      λ i. leaves_in s (room i) (len i) (number i)
