-- The order of a printed list is the only one in which each entry precedes all that follow it.
use Rattle.std.proofs.Common.{All, get_or, ◌≡◌, ℕ, suc, ◌<◌, ◌≤◌, ◌⊎◌, length, inl, inr, Bool, true, false, cond, List, [], ◌∷◌, Contains, map, refl, sym, ◌∙◌, ap, subst, arith}
use Rattle.std.specs.List.{AllByRecursion, IsDistinct}
use Rattle.std.specs.List.Sorted.{IsNonDecreasingBy, IsPermutation}
use Rattle.std.proofs.lemmas.Bool.Decides.{nat_tests}
use Rattle.std.proofs.lemmas.List.Elements.{All-contains, All-from_recursion, All-map, recursion_from_All}
use Rattle.std.proofs.lemmas.List.Sorted.{Contains-permutation, IsPermutation-cons, IsPermutation-map, IsPermutation-sym, IsPermutation-trans}
use Rattle.std.proofs.lemmas.Map.Keys.{IsDistinct-IsPermutation, IsDistinct-head, IsDistinct-tail}
use Rattle.pmap_cert.specs.Acceptance.{IsInOrder, begins_before}
use Rattle.pmap_model.specs.ListEntries.{HasDistinctBlocks, rank_of, same_block}
use Rattle.pmap_model.specs.ListModel.{Prefix, same_start_and_bits}
use Rattle.pmap_model.specs.MapModel.{Label}
use Rattle.pmap_model.specs.PrefixList.{prefix_of}
use Rattle.pmap_model.specs.declared.entry.Entry.{Entry}
use Rattle.pmap_model.proofs.Distinct.{distinct_to_map, flips}
use Rattle.pmap_model.proofs.ListBlocks.{ranks_ascend, short-block}
use Rattle.pmap_model.proofs.Finds.{Contains-cases, Contains-first, Contains-later, Contains-nil}
use Rattle.pmap_model.specs.Sorting.{with_in_order}
use Rattle.pmap_model.proofs.Sorting.{same-in_order}
use Rattle.pmap_cert.specs.ListText.{entries_in_order}

-- the entries with one more, before the first entry that doesn't precede it
abbrev with_entry : Prefix → List Prefix → List Prefix
with_entry p ps = with_in_order begins_before p ps

-- one entry precedes another
before-trans : (p r s : Prefix) → begins_before p r ≡ true → begins_before r s ≡ true → begins_before p s ≡ true
before-trans p r s a b = grind (arith, nat_tests)

before-once : (p r : Prefix) → begins_before p r ≡ true → begins_before r p ≡ true → ⊥
before-once p r a b = grind (arith, nat_tests)

before-other : (p r : Prefix) → begins_before r p ≡ false → same_start_and_bits p r ≡ false → begins_before p r ≡ true
before-other p r not ne = grind (arith, nat_tests)

before-not : (p r : Prefix) → begins_before p r ≡ true → begins_before r p ≡ false
before-not p r is = grind (arith, nat_tests)

-- two lists in order with the same entries are equal
after-first : (p r : Prefix) (ps : List Prefix) → IsInOrder (p ∷ ps) → Contains ps r → begins_before p r ≡ true
after-first p r ps ordered in' =
    All-contains (λ s. begins_before p s ≡ true) ps r (All-from_recursion (λ s. begins_before p s ≡ true) ps ordered.0) in'

first-same : (p r : Prefix) (ps rs : List Prefix) → IsInOrder (p ∷ ps) → IsInOrder (r ∷ rs)
    → (r ≡ p) ⊎ Contains rs p → (p ≡ r) ⊎ Contains ps r → p ≡ r
first-same p r ps rs op or' (inl e) there = sym e
first-same p r ps rs op or' (inr here) (inl e) = e
first-same p r ps rs op or' (inr here) (inr there) = absurd (before-once r p (after-first r p rs or' here) (after-first p r ps op there))

rest-in : (p s : Prefix) (ps rs : List Prefix) → IsInOrder (p ∷ ps) → Contains ps s → (p ≡ s) ⊎ Contains rs s → Contains rs s
rest-in p s ps rs ordered in' (inl e) =
    let self : begins_before p p ≡ true = rw e (subst (λ x. begins_before x s ≡ true) e (after-first p s ps ordered in')) in
    absurd (before-once p p self self)
rest-in p s ps rs ordered in' (inr there) = there

pub order-one : (ps rs : List Prefix) → IsInOrder ps → IsInOrder rs → ((s : Prefix) → Contains ps s → Contains rs s)
    → ((s : Prefix) → Contains rs s → Contains ps s) → ps ≡ rs
order-one [] [] op or' to from = refl
order-one [] (r ∷ rs) op or' to from = absurd (Contains-nil r (from r (Contains-first r rs)))
order-one (p ∷ ps) [] op or' to from = absurd (Contains-nil p (to p (Contains-first p ps)))
order-one (p ∷ ps) (r ∷ rs) op or' to from =
    let e : p ≡ r = first-same p r ps rs op or' (Contains-cases r rs p (to p (Contains-first p ps))) (Contains-cases p ps r (from r (Contains-first r rs))) in
    let rest : ps ≡ rs = order-one ps rs op.1 or'.1
    (λ s in'. rest-in p s ps rs op in' (subst (λ (x : Prefix). (x ≡ s) ⊎ Contains rs s) (sym e) (Contains-cases r rs s (to s (Contains-later p ps s in')))))
    (λ s in'. rest-in r s rs ps or' in' (subst (λ (x : Prefix). (x ≡ s) ⊎ Contains ps s) e (Contains-cases p ps s (from s (Contains-later r rs s in'))))) in
    ap (λ (x : Prefix). x ∷ ps) e ∙ ap (λ (xs : List Prefix). r ∷ xs) rest

-- the entries in order are those of the list
pub in_order-moves : (ps : List Prefix) → IsPermutation ps (entries_in_order ps)
in_order-moves = same-in_order begins_before

-- the entries in order ascend
with_entry-all : (P : Prefix → Type 0) (p : Prefix) (ps : List Prefix) → P p → AllByRecursion P ps → AllByRecursion P (with_entry p ps)
with_entry-all P p [] is all = (is, tt)
with_entry-all P p (r ∷ rs) is all = by (begins_before r p) (with_entry-all P p rs is all.1)
  where
    by : (b : Bool) → AllByRecursion P (with_entry p rs) → AllByRecursion P (cond b (r ∷ with_entry p rs) (p ∷ r ∷ rs))
    by true ih = (all.0, ih)
    by false ih = (is, all)

all-before : (p r : Prefix) (rs : List Prefix) → begins_before p r ≡ true → AllByRecursion (λ s. begins_before r s ≡ true) rs
    → AllByRecursion (λ s. begins_before p s ≡ true) rs
all-before p r [] is all = tt
all-before p r (s ∷ ss) is all = (before-trans p r s is all.0, all-before p r ss is all.1)

with_entry-order : (p : Prefix) (ps : List Prefix) → IsInOrder ps → AllByRecursion (λ r. same_start_and_bits p r ≡ false) ps → IsInOrder (with_entry p ps)
with_entry-order p [] ordered other = (tt, tt)
with_entry-order p (r ∷ rs) ordered other = by (begins_before r p) refl (with_entry-order p rs ordered.1 other.1)
  where
    by : (b : Bool) → begins_before r p ≡ b → IsInOrder (with_entry p rs) → IsInOrder (cond b (r ∷ with_entry p rs) (p ∷ r ∷ rs))
    by true e ih = (with_entry-all (λ s. begins_before r s ≡ true) p rs e ordered.0, ih)
    by false e ih = let is = before-other p r e other.0 in ((is, all-before p r rs is ordered.0), ordered)

pub alike-flips : (p r : Prefix) → same_start_and_bits p r ≡ same_start_and_bits r p
alike-flips p r = grind arith

pub in_order-order : (ps : List Prefix) → IsDistinct same_start_and_bits ps → IsInOrder (entries_in_order ps)
in_order-order [] distinct = tt
in_order-order (p ∷ ps) distinct =
    let more : IsDistinct same_start_and_bits (p ∷ entries_in_order ps) =
    IsDistinct-IsPermutation same_start_and_bits alike-flips (p ∷ ps) (p ∷ entries_in_order ps) (IsPermutation-cons p ps (entries_in_order ps) (in_order-moves ps)) distinct in
    with_entry-order p (entries_in_order ps) (in_order-order ps (IsDistinct-tail same_start_and_bits p ps distinct)) (IsDistinct-head same_start_and_bits p (entries_in_order ps) more)

-- there is only one order of a list's entries
pub in_order-one : (ps rs : List Prefix) → IsDistinct same_start_and_bits ps → IsPermutation ps rs → IsInOrder rs → rs ≡ entries_in_order ps
in_order-one ps rs distinct moved ordered =
    let both = IsPermutation-trans rs ps (entries_in_order ps) (IsPermutation-sym ps rs moved) (in_order-moves ps) in
    order-one rs (entries_in_order ps) ordered (in_order-order ps distinct) (λ s. Contains-permutation rs (entries_in_order ps) s both)
    (λ s. Contains-permutation (entries_in_order ps) rs s (IsPermutation-sym rs (entries_in_order ps) both))

-- entries that ascend by the ranks of their blocks are in order
rank-before : (table : List Label) (d e : Entry) → d.block.len ≤ 128 → e.block.len ≤ 128 → rank_of d.block < rank_of e.block
    → begins_before (prefix_of table d) (prefix_of table e) ≡ true
rank-before table d e short short' less = grind (arith, nat_tests)

entries-order : (table : List Label) (es : List Entry)
    → ((i j : ℕ) (d : Entry) → i < j → j < length es → rank_of (get_or es i d).block < rank_of (get_or es j d).block)
    → IsInOrder (map (prefix_of table) es)
entries-order table [] ascending = tt
entries-order table (e ∷ es) ascending =
    let P : Prefix → Type 0 = λ p. begins_before (prefix_of table e) p ≡ true in
    let each : All (λ d. P (prefix_of table d)) es = λ k d below.
    rank-before table e (get_or es k d) (short-block e.block) (short-block (get_or es k d).block) (ascending 0 (suc k) d (omega arith) (omega (arith, below))) in (
      recursion_from_All P (map (prefix_of table) es) (All-map P (prefix_of table) es each),
      entries-order table es (λ i j d le lt. ascending (suc i) (suc j) d (omega (arith, le)) (omega (arith, lt))),
    )

-- the sorted entries are those of the list in its order
alike-blocks : (table : List Label) (es : List Entry) → HasDistinctBlocks es → IsDistinct same_start_and_bits (map (prefix_of table) es)
alike-blocks table es distinct = distinct_to_map (prefix_of table) same_start_and_bits es distinct

pub sorted-order : (table : List Label) (es sorted : List Entry) → IsPermutation es sorted → IsNonDecreasingBy (λ e. rank_of e.block) sorted → HasDistinctBlocks es
    → map (prefix_of table) sorted ≡ entries_in_order (map (prefix_of table) es)
sorted-order table es sorted moved ascending distinct =
    in_order-one (map (prefix_of table) es) (map (prefix_of table) sorted) (alike-blocks table es distinct)
    (IsPermutation-map (prefix_of table) es sorted moved)
    (entries-order table sorted (ranks_ascend sorted (IsDistinct-IsPermutation same_block flips es sorted moved distinct) ascending))

-- entries in order keep their order
with_entry-first : (p : Prefix) (ps : List Prefix) → IsInOrder (p ∷ ps) → with_entry p ps ≡ p ∷ ps
with_entry-first p [] ordered = refl
with_entry-first p (r ∷ rs) ordered = let e : begins_before r p ≡ false = before-not p r ordered.0.0 in rw e refl

pub in_order-kept : (ps : List Prefix) → IsInOrder ps → entries_in_order ps ≡ ps
in_order-kept [] ordered = refl
in_order-kept (p ∷ ps) ordered = ap (with_entry p) (in_order-kept ps ordered.1) ∙ with_entry-first p ps ordered
