-- The order of statements by their first addresses.
use Rattle.std.proofs.Common.{◌≡◌, ◌∙◌, ℕ, ◌+◌, ◌<◌, inl, inr, List, [], ◌∷◌, ◌++◌, Option, Some, All, Contains, get_or, length, map, slice_get, refl, sym, ap, subst, arith}
use Rattle.std.specs.Option.{option_map_or}
use Rattle.std.specs.List.Sorted.{IsNonDecreasingBy, IsPermutation}
use Rattle.std.proofs.lemmas.Bool.{cases_eq}
use Rattle.std.proofs.lemmas.List.{get_or-map, length-map, length_push, map-append}
use Rattle.std.proofs.lemmas.List.Elements.{All-push, Contains-append_left, Contains-push}
use Rattle.std.proofs.lemmas.List.Sorted.{All-permutation, Contains-permutation, IsNonDecreasingBy-from_default, IsPermutation-map, length_permutation}
use Rattle.std.proofs.lemmas.Option.{get_or_from_slice_get, same_Some, slice_get-get_or, slice_get_cases, slice_get_within}
use Rattle.pmap_model.specs.declared.statement.Statement.{Statement}
use Rattle.pmap_stretches.specs.Starting.{IsOrder, NarrowStart, Start, number_at, start_of_narrow}

-- statements that ascend are in order
pub given_order : (ss : List Statement) → IsNonDecreasingBy (λ s. s.span.low.value) ss → IsOrder ss []
given_order ss up = record {
  within = λ i less. less;
  every = λ j less. (j, less, refl);
  ascending = λ i k r s le below first then.
      let order = up i k r le below in
      let a = ap (λ (x : Statement). x.span.low.value) (get_or_from_slice_get ss i r r first) in
      let b = ap (λ (x : Statement). x.span.low.value) (get_or_from_slice_get ss k s r then) in
      omega (arith, order, a, b);
}

listed_at : (ss : List Statement) (j : ℕ) → j < length ss → (s : Statement) × (slice_get ss j ≡ Some s)
listed_at ss j less = elim (slice_get_cases ss j).1 [ inl here ↦ (here.0, here.2) | inr past ↦ absurd (omega (arith, less, past.0)) ]

abbrev start_of : ℕ → Statement → Start
start_of number s = record { low = s.span.low.value; number = number }

pub record IsStart (ss : List Statement) (start : Start) : Type 0 where
  pub statement : Statement
  pub listed : slice_get ss start.number ≡ Some statement
  pub low : statement.span.low.value ≡ start.low

-- the starts of the first statements are there
pub record HasFirst (ss : List Statement) (count : ℕ) (starts : List Start) : Type 0 where
  pub long : length starts ≡ count
  pub each : All (IsStart ss) starts
  pub every : (j : ℕ) (s : Statement) → j < count → slice_get ss j ≡ Some s → Contains starts (start_of j s)

pub first_more : (ss : List Statement) (count : ℕ) (starts : List Start) (s : Statement) → HasFirst ss count starts → slice_get ss count ≡ Some s
    → HasFirst ss (count + 1) (starts ++ start_of count s ∷ [])
first_more ss count starts s has listed =
    record {
      long = omega (arith, length_push starts (start_of count s), has.long);
      each = All-push (IsStart ss) starts (start_of count s) has.each (record { statement = s; listed = listed; low = refl });
      every = λ j r below at.
          elim (cases_eq j count) [
            | inl same ↦
                let statement : s ≡ r = same_Some s r (sym listed ∙ ap (slice_get ss) (sym same) ∙ at) in
                let start : start_of count s ≡ start_of j r = ap (λ (k : ℕ). start_of k s) (sym same) ∙ ap (start_of j) statement in
                subst (Contains (starts ++ start_of count s ∷ [])) start (Contains-push starts (start_of count s))
            | inr other ↦ Contains-append_left starts (start_of count s ∷ []) (start_of j r) (has.every j r (omega (arith, below, other)) at)
          ];
    }

pub narrow_more : (ss : List Statement) (count : ℕ) (starts : List NarrowStart) (n : NarrowStart) (s : Statement)
    → HasFirst ss count (map start_of_narrow starts) → slice_get ss count ≡ Some s → start_of_narrow n ≡ start_of count s
    → HasFirst ss (count + 1) (map start_of_narrow (starts ++ n ∷ []))
narrow_more ss count starts n s has listed is =
    rw (map-append start_of_narrow starts (n ∷ []), is) (first_more ss count (map start_of_narrow starts) s has listed)

-- all starts, sorted
module _ (ss : List Statement) (count : ℕ) (starts sorted : List Start) (has : HasFirst ss count starts) (all : count ≡ length ss)
    (moved : IsPermutation starts sorted) (up : IsNonDecreasingBy (λ start. start.low) sorted) where
  some : Start
  some = record { low = 0; number = 0 }

  long : length sorted ≡ length ss
  long = length_permutation starts sorted moved ∙ has.long ∙ all

  at : (i : ℕ) → i < length ss → slice_get sorted i ≡ Some (get_or sorted i some)
  at i less = slice_get-get_or sorted i some (omega (arith, less, long))

  number : (i : ℕ) → i < length ss → number_at sorted i ≡ (get_or sorted i some).number
  number i less = ap (λ (o : Option Start). option_map_or (λ (x : Start). x.number) o i) (at i less)

  start : (i : ℕ) → i < length ss → IsStart ss (get_or sorted i some)
  start i less = All-permutation (IsStart ss) starts sorted moved has.each i some (omega (arith, less, long))

  low : (i : ℕ) (s : Statement) → i < length ss → slice_get ss (number_at sorted i) ≡ Some s → s.span.low.value ≡ (get_or sorted i some).low
  low i s less is =
      let here = start i less in
      let same = same_Some s here.statement (sym is ∙ ap (slice_get ss) (number i less) ∙ here.listed) in
      ap (λ (x : Statement). x.span.low.value) same ∙ here.low

  pub sorted_order : IsOrder ss sorted
  sorted_order = record {
    within = λ i less. let in_list = slice_get_within ss _ _ (start i less).listed in omega (arith, in_list, number i less);
    every = λ j less.
        let s = listed_at ss j less in
        let e = start_of j s.0 in
        let in_list = Contains-permutation starts sorted e moved (has.every j s.0 (omega (arith, less, all)) s.1) in
        let here = slice_get-get_or sorted in_list.0 e in_list.1 ∙ ap (λ (x : Start). Some x) in_list.2 in
        (in_list.0, omega (arith, in_list.1, long), ap (λ (o : Option Start). option_map_or (λ (x : Start). x.number) o in_list.0) here);
    ascending = λ i k r s le below first then.
        let order = up i k some le (omega (arith, below, long)) in
        let a = low i r (omega (arith, le, below)) first in
        let b = low k s below then in
        omega (arith, order, a, b);
  }

pub narrow_order : (ss : List Statement) (count : ℕ) (starts sorted : List NarrowStart) → HasFirst ss count (map start_of_narrow starts)
    → count ≡ length ss → IsPermutation starts sorted → IsNonDecreasingBy (λ n. n.low) sorted → IsOrder ss (map start_of_narrow sorted)
narrow_order ss count starts sorted has all moved up =
    let none : NarrowStart = record { low = 0; number = 0 } in
    sorted_order ss count (map start_of_narrow starts) (map start_of_narrow sorted) has all (IsPermutation-map start_of_narrow starts sorted moved)
    (IsNonDecreasingBy-from_default (λ start. start.low) (map start_of_narrow sorted) (start_of_narrow none)
    (λ i j le less.
    let below : j < length sorted = omega (arith, less, length-map sorted start_of_narrow) in
    rw (get_or-map start_of_narrow sorted i none (start_of_narrow none) (omega (arith, le, below)), get_or-map start_of_narrow sorted j none (start_of_narrow none) below)
    (up i j none le below)))
