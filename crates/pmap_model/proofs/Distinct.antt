-- Lists without repetition, and lists of entries whose blocks differ.
use Rattle.std.proofs.Common.{◌≡◌, ◌+◌, ◌<◌, Bool, false, ◌&&◌, ◌==◌, List, [], ◌∷◌, get_or, length, map, ap₂, arith}
use Rattle.std.proofs.lemmas.Bool.{and_parts, eqb-true, false_from_ne_true}
use Rattle.std.proofs.lemmas.Cmp.{nat_eq_equiv}
use Rattle.std.proofs.lemmas.List.Sorted.{IsNonDecreasingBy-from_all_adjacent, IsPermutation-sym}
use Rattle.std.proofs.lemmas.Map.Keys.{IsDistinct-IsPermutation, IsDistinct-from_apart}
use Rattle.std.specs.List.{AllAdjacentBelow, AllByRecursion, IsDistinct}
use Rattle.std.specs.List.Sorted.{IsPermutation}
use Rattle.pmap_model.specs.ListEntries.{HasDistinctBlocks, rank_of, same_block}
use Rattle.pmap_model.specs.PrefixList.{Entry}

module _ {X Y : Type 0} (f : X → Y) where
  all_from_map : (P : Y → Type 0) (xs : List X) → AllByRecursion P (map f xs) → AllByRecursion (λ x. P (f x)) xs
  all_from_map P [] h = tt
  all_from_map P (x ∷ xs) h = (h.0, all_from_map P xs h.1)

  all_to_map : (P : Y → Type 0) (xs : List X) → AllByRecursion (λ x. P (f x)) xs → AllByRecursion P (map f xs)
  all_to_map P [] h = tt
  all_to_map P (x ∷ xs) h = (h.0, all_to_map P xs h.1)

  -- no two elements have equal values of a function if and only if the list of these values has no two equal ones
  pub distinct_from_map : (eq : Y → Y → Bool) (xs : List X) → IsDistinct eq (map f xs) → IsDistinct (λ x y. eq (f x) (f y)) xs
  unfolding IsDistinct
  distinct_from_map eq [] h = tt
  distinct_from_map eq (x ∷ xs) h = (all_from_map (λ y. eq (f x) y ≡ false) xs h.0, distinct_from_map eq xs h.1)

  pub distinct_to_map : (eq : Y → Y → Bool) (xs : List X) → IsDistinct (λ x y. eq (f x) (f y)) xs → IsDistinct eq (map f xs)
  unfolding IsDistinct
  distinct_to_map eq [] h = tt
  distinct_to_map eq (x ∷ xs) h = (all_to_map (λ y. eq (f x) y ≡ false) xs h.0, distinct_to_map eq xs h.1)

-- entries that ascend have distinct blocks
rank_apart : (d e : Entry) → rank_of d.block < rank_of e.block → same_block d e ≡ false
rank_apart d e less =
    false_from_ne_true (same_block d e)
    (λ h. let parts = and_parts (d.block.value == e.block.value) (d.block.len == e.block.len) h in
    omega (arith, less, eqb-true d.block.value e.block.value parts.0, eqb-true d.block.len e.block.len parts.1))

pub distinct_ascending : (es : List Entry) → AllAdjacentBelow (λ d e. rank_of d.block < rank_of e.block) es (length es) → HasDistinctBlocks es
distinct_ascending es adjacent =
    let up = IsNonDecreasingBy-from_all_adjacent (λ e. rank_of e.block) es (λ k d within. omega (arith, adjacent k d within)) in
    IsDistinct-from_apart same_block es
    (λ i j d under within. rank_apart (get_or es i d) (get_or es j d)
    (omega (arith, adjacent i d (omega (arith, under, within)), up (i + 1) j d (omega (arith, under)) within)))

-- this is also so if they ascend in another order
pub flips : (d e : Entry) → same_block d e ≡ same_block e d
flips d e = ap₂ ◌&&◌ (nat_eq_equiv.symm d.block.value e.block.value) (nat_eq_equiv.symm d.block.len e.block.len)

pub distinct_sorted : (es sorted : List Entry) → IsPermutation es sorted → HasDistinctBlocks sorted → HasDistinctBlocks es
distinct_sorted es sorted moved = IsDistinct-IsPermutation same_block flips sorted es (IsPermutation-sym es sorted moved)
