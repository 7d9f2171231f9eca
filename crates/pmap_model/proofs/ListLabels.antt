-- The label that a prefix list gives an address: that of the longest entry that covers it.
use Rattle.std.proofs.Common.{◌≡◌, ℕ, zero, suc, ◌<◌, ◌≤◌, ◌==◌, inl, inr, true, false, List, [], ◌∷◌, ◌++◌, Option, Some, None, get_or, option_map, find, refl, sym, ap, ◌∙◌, subst, arith, All, Contains, le_refl}
use Rattle.std.specs.List.{IsDistinct}
use Rattle.std.specs.List.Sorted.{IsPermutation}
use Rattle.std.specs.Option.{MatchOption, option_or}
use Rattle.std.proofs.lemmas.Bool.{and_from, and_parts, both_ways, cases_eq, eq-eqb, eqb-true, false_from_ne_true}
use Rattle.std.proofs.lemmas.List.{append_assoc}
use Rattle.std.proofs.lemmas.List.Elements.{All-append, All-cons, All-contains, All-contains_itself, Contains-append_right}
use Rattle.std.proofs.lemmas.List.Sorted.{Contains-permutation, IsPermutation-sym}
use Rattle.prefix_keys.specs.Block.{block_number}
use Rattle.pmap_model.specs.ListModel.{Prefix, covers, label_below, CoversAddress, HasSamePrefixes, IsLongestMatch, LabelsBlocksOnce, is_same_prefix}
use Rattle.pmap_model.specs.MapModel.{Label}
use Rattle.pmap_model.proofs.Finds.{All-left, All-right, Contains-first, distinct_same, find-fails, find-first, find-place, find_alike, find_none}

-- the label of the first entry of n bits that covers the address
abbrev pub label_of_length : ℕ → List Prefix → ℕ → ℕ → Option Label
label_of_length W ps n a = option_map (λ p. p.label) (find (covers W n a) ps)

-- an entry passes the test for n bits if it has n bits and covers the address
pub covers-true : (W n a : ℕ) (p : Prefix) → n ≤ W → covers W n a p ≡ true → (p.bits ≡ n) × CoversAddress W a p
covers-true W n a p fits h =
    let parts = and_parts (p.bits == n) (block_number W n p.start == block_number W n a) h in
    let bits = eqb-true p.bits n parts.0 in
    let number = eqb-true (block_number W n p.start) (block_number W n a) parts.1 in (
      bits,
      record {
        fits = rw bits fits;
        number = subst (λ (i : ℕ). block_number W i p.start ≡ block_number W i a) (sym bits) number;
      },
    )

pub covers-from : (W n a : ℕ) (p : Prefix) → CoversAddress W a p → p.bits ≡ n → covers W n a p ≡ true
covers-from W n a p c bits =
    and_from (p.bits == n) (block_number W n p.start == block_number W n a) (eq-eqb p.bits n bits)
    (eq-eqb (block_number W n p.start) (block_number W n a)
    (subst (λ (i : ℕ). block_number W i p.start ≡ block_number W i a) bits c.number))

covers-false : (W n a : ℕ) (p : Prefix) → covers W n a p ≡ false → CoversAddress W a p → p.bits ≡ n → ⊥
covers-false W n a p fails c bits = both_ways (covers W n a p) fails (covers-from W n a p c bits)

-- the entry is the longest of those of fewer than n bits that cover the address, and of equal blocks the first
record IsLongestBelow (W : ℕ) (ps : List Prefix) (n a : ℕ) (p : Prefix) : Type 0 where
  before : List Prefix
  following : List Prefix
  list : ps ≡ before ++ p ∷ following
  short : p.bits < n
  covers : CoversAddress W a p
  earlier : All (λ r. CoversAddress W a r → r.bits < n → r.bits < p.bits) before
  later : All (λ r. CoversAddress W a r → r.bits < n → r.bits ≤ p.bits) following

below : (n b : ℕ) → b < suc n → (b ≡ n → ⊥) → b < n
below n b short other = omega arith

above : (n b : ℕ) → n ≤ b → (b ≡ n → ⊥) → suc n ≤ b
above n b long other = omega arith

longest-below : (W : ℕ) (ps : List Prefix) (n a : ℕ) → n ≤ suc W →
    MatchOption (label_below W ps n a) (All (λ r. CoversAddress W a r → n ≤ r.bits) ps)
    (λ x. (p : Prefix) × IsLongestBelow W ps n a p × (p.label ≡ x))
longest-below W ps zero a fits = λ k d within c. omega arith
longest-below W ps (suc n) a fits =
    by (find (covers W n a) ps) refl (label_below W ps n a) (longest-below W ps n a (omega arith))
  where
    by : (found : Option Prefix) → find (covers W n a) ps ≡ found → (shorter : Option Label) →
        MatchOption shorter (All (λ r. CoversAddress W a r → n ≤ r.bits) ps)
        (λ x. (p : Prefix) × IsLongestBelow W ps n a p × (p.label ≡ x)) →
        MatchOption (option_or (option_map (λ (p : Prefix). p.label) found) shorter)
        (All (λ r. CoversAddress W a r → suc n ≤ r.bits) ps)
        (λ x. (p : Prefix) × IsLongestBelow W ps (suc n) a p × (p.label ≡ x))
    by (Some p) found shorter ih =
        let at = find-place (covers W n a) ps p found in
        let here = covers-true W n a p (omega arith) at.passes in (
          p,
          record {
            before = at.before;
            following = at.following;
            list = at.list;
            short = omega (arith, here.0);
            covers = here.1;
            earlier = λ k d within c short.
                let shorter : (get_or at.before k d).bits < n =
                below n (get_or at.before k d).bits short (covers-false W n a (get_or at.before k d) (at.fails k d within) c) in
                omega (arith, here.0, shorter);
            later = λ k d within c short. omega (arith, here.0, short);
          },
          refl,
        )
    by None found None ih =
        λ k d within c. above n (get_or ps k d).bits (ih k d within c)
        (covers-false W n a (get_or ps k d) (find-fails (covers W n a) ps found k d within) c)
    by None found (Some x) ih =
        let p = ih.0 in
        let so_far = ih.1 in
        let fails = subst (λ (rs : List Prefix). All (λ r. covers W n a r ≡ false) rs) so_far.list (find-fails (covers W n a) ps found) in
        let before = All-left (λ r. covers W n a r ≡ false) so_far.before (p ∷ so_far.following) fails in
        let following = All-right (λ r. covers W n a r ≡ false) (so_far.before ++ p ∷ []) so_far.following
        (subst (λ (rs : List Prefix). All (λ r. covers W n a r ≡ false) rs) (sym (append_assoc so_far.before (p ∷ []) so_far.following)) fails) in (
          p,
          record {
            before = so_far.before;
            following = so_far.following;
            list = so_far.list;
            short = omega (arith, so_far.short);
            covers = so_far.covers;
            earlier = λ k d within c short. so_far.earlier k d within c
                (below n (get_or so_far.before k d).bits short (covers-false W n a (get_or so_far.before k d) (before k d within) c));
            later = λ k d within c short. so_far.later k d within c
                (below n (get_or so_far.following k d).bits short (covers-false W n a (get_or so_far.following k d) (following k d within) c));
          },
          ih.2,
        )

-- the label is that of the longest entry that covers the address, and of equal blocks the first; if none covers it,
-- there is no label
pub longest-match : (W : ℕ) (ps : List Prefix) (a : ℕ) →
    MatchOption (label_below W ps (suc W) a) (All (λ p. CoversAddress W a p → ⊥) ps)
    (λ x. (p : Prefix) × IsLongestMatch W ps a p × (p.label ≡ x))
longest-match W ps a = by (label_below W ps (suc W) a) (longest-below W ps (suc W) a (le_refl (suc W)))
  where
    by : (o : Option Label) →
        MatchOption o (All (λ r. CoversAddress W a r → suc W ≤ r.bits) ps)
        (λ x. (p : Prefix) × IsLongestBelow W ps (suc W) a p × (p.label ≡ x)) →
        MatchOption o (All (λ p. CoversAddress W a p → ⊥) ps) (λ x. (p : Prefix) × IsLongestMatch W ps a p × (p.label ≡ x))
    by None none = λ k d within c. absurd (omega (arith, none k d within c, c.fits))
    by (Some x) some =
        let longest = some.1 in (
          some.0,
          record {
            before = longest.before;
            following = longest.following;
            list = longest.list;
            covers = longest.covers;
            earlier = λ k d within c. longest.earlier k d within c (omega (arith, c.fits));
            later = λ k d within c. longest.later k d within c (omega (arith, c.fits));
          },
          some.2,
        )

-- an entry that is longer than those that cover the address doesn't cover it
pub label_at-past : (W : ℕ) (ps : List Prefix) (a n k : ℕ) → k ≤ W → n < k →
    All (λ r. CoversAddress W a r → r.bits ≤ n) ps → label_of_length W ps k a ≡ None
label_at-past W ps a n k fits past most =
    ap (option_map (λ (p : Prefix). p.label))
    (find_none (covers W k a) ps
    (λ i d within. false_from_ne_true (covers W k a (get_or ps i d))
    (λ h. let c = covers-true W k a (get_or ps i d) fits h in absurd (omega (arith, past, c.0, most i d within c.1)))))

-- no entry that covers the address is longer than the longest match, which is one of the entries
none_longer : (W : ℕ) (ps : List Prefix) (a : ℕ) (p : Prefix) → IsLongestMatch W ps a p →
    All (λ r. CoversAddress W a r → r.bits ≤ p.bits) ps
none_longer W ps a p longest =
    subst (λ (rs : List Prefix). All (λ r. CoversAddress W a r → r.bits ≤ p.bits) rs) (sym longest.list)
    (All-append (λ r. CoversAddress W a r → r.bits ≤ p.bits) longest.before (p ∷ longest.following)
    (λ k d within c. omega (arith, longest.earlier k d within c))
    (All-cons (λ r. CoversAddress W a r → r.bits ≤ p.bits) p longest.following (λ c. le_refl p.bits) longest.later))

Contains-longest : (W : ℕ) (ps : List Prefix) (a : ℕ) (p : Prefix) → IsLongestMatch W ps a p → Contains ps p
Contains-longest W ps a p longest =
    subst (λ (rs : List Prefix). Contains rs p) (sym longest.list)
    (Contains-append_right longest.before (p ∷ longest.following) p (Contains-first p longest.following))

-- so it gives the address its label
label_below-longest : (W : ℕ) (ps : List Prefix) (a : ℕ) (p : Prefix) → IsLongestMatch W ps a p →
    All (λ r. CoversAddress W a r → r.bits ≤ p.bits) ps → (k : ℕ) → p.bits < k → k ≤ suc W → label_below W ps k a ≡ Some p.label
label_below-longest W ps a p longest most zero longer fits = absurd (omega (arith, longer))
label_below-longest W ps a p longest most (suc k) longer fits =
    elim (cases_eq p.bits k) [
      | inl same ↦
          let found : find (covers W p.bits a) (longest.before ++ p ∷ longest.following) ≡ Some p =
          find-first (covers W p.bits a) longest.before longest.following p
          (λ i d within. false_from_ne_true (covers W p.bits a (get_or longest.before i d))
          (λ h. let c = covers-true W p.bits a (get_or longest.before i d) (longest.covers).fits h in
          absurd (omega (arith, c.0, longest.earlier i d within c.1))))
          (covers-from W p.bits a p longest.covers refl) in
          let here : label_of_length W ps p.bits a ≡ Some p.label =
          ap (λ (rs : List Prefix). label_of_length W rs p.bits a) longest.list ∙ ap (option_map (λ (r : Prefix). r.label)) found in
          rw (← same, here)
      | inr other ↦
          let past : p.bits < k = omega (arith, longer, other) in
          rw (label_at-past W ps a p.bits k (omega arith) past most)
          (label_below-longest W ps a p longest most k past (omega arith))
    ]

pub label-longest : (W : ℕ) (ps : List Prefix) (a : ℕ) (p : Prefix) → IsLongestMatch W ps a p →
    label_below W ps (suc W) a ≡ Some p.label
label-longest W ps a p longest =
    label_below-longest W ps a p longest (none_longer W ps a p longest) (suc W) (omega (arith, (longest.covers).fits)) (le_refl (suc W))

-- an entry that covers the address gives it its label if no entry that covers it is longer and those of the same length
-- have the same label
pub label_below-top : (W : ℕ) (ps : List Prefix) (a : ℕ) (p : Prefix) → Contains ps p → CoversAddress W a p →
    ((r : Prefix) → Contains ps r → CoversAddress W a r → r.bits ≤ p.bits) →
    ((r : Prefix) → Contains ps r → CoversAddress W a r → r.bits ≡ p.bits → r.label ≡ p.label) →
    (k : ℕ) → p.bits < k → k ≤ suc W → label_below W ps k a ≡ Some p.label
label_below-top W ps a p has covered most alike zero longer fits = absurd (omega (arith, longer))
label_below-top W ps a p has covered most alike (suc k) longer fits =
    elim (cases_eq p.bits k) [
      | inl same ↦
          let here : label_of_length W ps p.bits a ≡ Some p.label =
          find_alike (λ (r : Prefix). r.label) (covers W p.bits a) ps p has (covers-from W p.bits a p covered refl)
          (λ r among h. let c = covers-true W p.bits a r covered.fits h in alike r among c.1 c.0) in
          rw (← same, here)
      | inr other ↦
          let past : p.bits < k = omega (arith, longer, other) in
          rw (label_at-past W ps a p.bits k (omega arith) past
          (λ i d within c. most (get_or ps i d) (All-contains_itself ps i d within) c))
          (label_below-top W ps a p has covered most alike k past (omega arith))
    ]

-- if no two entries have the same block, a block has one label
pub once-distinct : (W : ℕ) (ps : List Prefix) → IsDistinct (is_same_prefix W) ps → LabelsBlocksOnce W ps
once-distinct W ps distinct p r has has' bits number =
    let there = and_from (p.bits == r.bits) (block_number W p.bits p.start == block_number W r.bits r.start)
    (eq-eqb p.bits r.bits bits) (eq-eqb (block_number W p.bits p.start) (block_number W r.bits r.start) number) in
    let back = and_from (r.bits == p.bits) (block_number W r.bits r.start == block_number W p.bits p.start)
    (eq-eqb r.bits p.bits (sym bits)) (eq-eqb (block_number W r.bits r.start) (block_number W p.bits p.start) (sym number)) in
    ap (λ (s : Prefix). s.label) (distinct_same (is_same_prefix W) ps p r distinct has has' there back)

-- if a block has only one label, the label depends on the entries of a list, and not on their order
pub label-same_prefixes : (W : ℕ) (ps rs : List Prefix) (a : ℕ) → LabelsBlocksOnce W ps → HasSamePrefixes ps rs →
    label_below W ps (suc W) a ≡ label_below W rs (suc W) a
label-same_prefixes W ps rs a once same =
    by (label_below W ps (suc W) a) refl (longest-match W ps a) (label_below W rs (suc W) a) refl (longest-match W rs a)
  where
    by : (o : Option Label) → label_below W ps (suc W) a ≡ o →
        MatchOption o (All (λ p. CoversAddress W a p → ⊥) ps) (λ x. (p : Prefix) × IsLongestMatch W ps a p × (p.label ≡ x)) →
        (o' : Option Label) → label_below W rs (suc W) a ≡ o' →
        MatchOption o' (All (λ p. CoversAddress W a p → ⊥) rs) (λ x. (p : Prefix) × IsLongestMatch W rs a p × (p.label ≡ x)) →
        label_below W ps (suc W) a ≡ label_below W rs (suc W) a
    by None e none None e' none' = e ∙ sym e'
    by None e none (Some x) e' some' =
        absurd (All-contains (λ p. CoversAddress W a p → ⊥) ps some'.0 none
        ((same some'.0).1 (Contains-longest W rs a some'.0 some'.1)) (some'.1).covers)
    by (Some x) e some o' e' h' =
        let p = some.0 in
        let longest = some.1 in
        let has = Contains-longest W ps a p longest in
        let alike : label_below W rs (suc W) a ≡ Some p.label =
        label_below-top W rs a p ((same p).0 has) longest.covers
        (λ r among c. All-contains (λ r. CoversAddress W a r → r.bits ≤ p.bits) ps r (none_longer W ps a p longest) ((same r).1 among) c)
        (λ r among c bits. once r p ((same r).1 among) has bits
        (c.number ∙ ap (λ (i : ℕ). block_number W i a) bits ∙ sym (longest.covers).number))
        (suc W) (omega (arith, (longest.covers).fits)) (le_refl (suc W)) in
        e ∙ ap Some (sym some.2) ∙ sym alike

pub same_prefixes-permuted : (ps rs : List Prefix) → IsPermutation ps rs → HasSamePrefixes ps rs
same_prefixes-permuted ps rs moved p =
    (λ has. Contains-permutation ps rs p moved has, λ has. Contains-permutation rs ps p (IsPermutation-sym ps rs moved) has)
