-- The ends of stretches, by their indices.
use Rattle.std.proofs.Common.{◌≡◌, ◌∙◌, ℕ, ◌+◌, ◌-◌, ◌^◌, ◌<◌, ◌≤◌, inl, inr, Bool, cond, leb, leb-true, List, [], ◌∷◌, ◌++◌, Option, None, get_or, length, option_and_then, slice_get, ap, arith, pow_pos, sym}
use Rattle.std.proofs.lemmas.Bool.{cases_lt, le-ltb, leb-false, lt-ltb}
use Rattle.std.proofs.lemmas.List.{get_or_append_left, get_or_push, length_push}
use Rattle.std.proofs.lemmas.List.Sums.{prefix_len-le-length, prefix_len_passes, prefix_len_stops}
use Rattle.prefix_keys.specs.Block.{width_of}
use Rattle.pmap_model.specs.MapModel.{Label}
use Rattle.pmap_stretches.specs.Stretches.{HasEveryAddress, HoldsAddress, StretchesModel, count_begun, first_at, label_at, last_at, text_held}
use Rattle.pmap_model.specs.declared.label.LabelId.{LabelId}

-- a stretch ends before the next one, and the last at the end
pub last_before : (s : StretchesModel) (i : ℕ) → i + 1 < length s.firsts → last_at s i ≡ first_at s (i + 1) - 1
last_before s i more = ap (λ (b : Bool). cond b (first_at s (i + 1) - 1) (2 ^ width_of s.version - 1)) (lt-ltb (i + 1) (length s.firsts) more)

pub last_end : (s : StretchesModel) (i : ℕ) → length s.firsts ≤ i + 1 → last_at s i ≡ 2 ^ width_of s.version - 1
last_end s i end = ap (λ (b : Bool). cond b (first_at s (i + 1) - 1) (2 ^ width_of s.version - 1)) (le-ltb (i + 1) (length s.firsts) end)

-- an address is in one stretch: the last that begins at it or before it
module _ (s : StretchesModel) (every : HasEveryAddress s) (a : ℕ) where
  abbrev count : ℕ
  count = count_begun s.firsts a

  begun : (i : ℕ) → i < count → first_at s i ≤ a
  begun i under = leb-true (first_at s i) a (prefix_len_passes (λ first. leb first a) s.firsts i 0 under)

  not_begun : count < length s.firsts → a < first_at s count
  not_begun more = leb-false (first_at s count) a (prefix_len_stops (λ first. leb first a) s.firsts 0 more)

  some_begun : 0 < count
  some_begun = elim (cases_lt 0 count) [
    | inl some ↦ some
    | inr none ↦
        let zero : count ≡ 0 = omega (arith, none) in
        let above = not_begun (omega (arith, none, every.some)) in
        let first : first_at s count ≡ 0 = ap (first_at s) zero ∙ every.zero in
        absurd (omega (arith, above, first))
  ]

  pub holder : a < 2 ^ width_of s.version → HoldsAddress s a (count - 1)
  holder fits =
      let few = prefix_len-le-length (λ first. leb first a) s.firsts in
      let same : count - 1 + 1 ≡ count = omega (arith, some_begun) in
      record {
        index = omega (arith, few, some_begun);
        from = begun (count - 1) (omega (arith, some_begun));
        to = elim (cases_lt count (length s.firsts)) [
          | inl more ↦
              let above = not_begun more in
              let next = last_before s (count - 1) (omega (arith, same, more)) ∙ ap (λ (i : ℕ). first_at s i - 1) same in
              omega (arith, above, next)
          | inr end ↦
              let last = last_end s (count - 1) (omega (arith, same, end)) in
              omega (arith, last, fits)
        ];
      }

  pub held_index : (i : ℕ) → HoldsAddress s a i → count - 1 ≡ i
  held_index i holds = elim (cases_lt i (count - 1)) [
    | inl under ↦
        let few = prefix_len-le-length (λ first. leb first a) s.firsts in
        let from = begun (i + 1) (omega (arith, under)) in
        let last = last_before s i (omega (arith, under, few)) in
        let ascends = every.ascending i (i + 1) (omega arith) (omega (arith, under, few)) in
        absurd (omega (arith, from, last, ascends, holds.to))
    | inr up ↦ elim (cases_lt (count - 1) i) [
      | inl over ↦
          let above = not_begun (omega (arith, over, holds.index, some_begun)) in
          elim (cases_lt count i) [
            | inl beyond ↦
                let ascends = every.ascending count i beyond holds.index in
                absurd (omega (arith, above, ascends, holds.from))
            | inr here ↦
                let same : first_at s count ≡ first_at s i = ap (first_at s) (let e : count ≡ i = omega (arith, over, here, some_begun) in e) in
                absurd (omega (arith, above, same, holds.from))
          ]
      | inr down ↦ omega (arith, up, down)
    ]
  ]

-- one stretch was added
pub record Adds (s : StretchesModel) (first : ℕ) (label : Option LabelId) (s' : StretchesModel) : Type 0 where
  pub version : s'.version ≡ s.version
  pub firsts : s'.firsts ≡ s.firsts ++ first ∷ []
  pub labels : s'.labels ≡ s.labels ++ label ∷ []

module _ (s : StretchesModel) (first : ℕ) (label : Option LabelId) (s' : StretchesModel) (every : HasEveryAddress s) (adds : Adds s first label s') where
  pub length_added : length s'.firsts ≡ length s.firsts + 1
  length_added = ap (λ (l : List ℕ). length l) adds.firsts ∙ length_push s.firsts first

  pub first_early : (i : ℕ) → i < length s.firsts → first_at s' i ≡ first_at s i
  first_early i under = ap (λ (l : List ℕ). get_or l i 0) adds.firsts ∙ get_or_append_left s.firsts (first ∷ []) 0 i under

  pub first_late : (i : ℕ) → i ≡ length s.firsts → first_at s' i ≡ first
  first_late i here = ap (λ (l : List ℕ). get_or l i 0) adds.firsts ∙ get_or_push s.firsts first 0 i (sym here)

  pub label_early : (i : ℕ) → i < length s.firsts → label_at s' i ≡ label_at s i
  label_early i under =
      ap (λ (l : List (Option LabelId)). get_or l i None) adds.labels
      ∙ get_or_append_left s.labels (label ∷ []) None i (omega (arith, under, every.paired))

  pub label_late : (i : ℕ) → i ≡ length s.firsts → label_at s' i ≡ label
  label_late i here =
      ap (λ (l : List (Option LabelId)). get_or l i None) adds.labels
      ∙ get_or_push s.labels label None i (every.paired ∙ sym here)

  pub last_early : (i : ℕ) → i + 1 < length s.firsts → last_at s' i ≡ last_at s i
  last_early i under =
      last_before s' i (omega (arith, under, length_added))
      ∙ ap (λ (n : ℕ). n - 1) (first_early (i + 1) under) ∙ sym (last_before s i under)

  pub last_late : (i : ℕ) → i + 1 ≡ length s.firsts → last_at s' i ≡ first - 1
  last_late i here = last_before s' i (omega (arith, here, length_added)) ∙ ap (λ (n : ℕ). n - 1) (first_late (i + 1) here)

  -- they begin one after another, as those before did
  pub every_added : first_at s (length s.firsts - 1) < first → first < 2 ^ width_of s.version → HasEveryAddress s'
  every_added above fits = record {
    some = omega (arith, length_added);
    paired = ap (λ (l : List (Option LabelId)). length l) adds.labels ∙ length_push s.labels label ∙ ap (λ (n : ℕ). n + 1) every.paired ∙ sym length_added;
    zero = first_early 0 every.some ∙ every.zero;
    ascending = λ i j under within.
        let before = first_early i (omega (arith, under, within, length_added)) in
        elim (cases_lt j (length s.firsts)) [
          | inl early ↦ let ascends = every.ascending i j under early in omega (arith, before, first_early j early, ascends)
          | inr late ↦
              let last = first_late j (omega (arith, late, within, length_added)) in
              elim (cases_lt i (length s.firsts - 1)) [
                | inl low ↦
                    let ascends = every.ascending i (length s.firsts - 1) low (omega (arith, every.some)) in
                    omega (arith, before, last, ascends, above)
                | inr top ↦
                    let same : first_at s i ≡ first_at s (length s.firsts - 1) =
                    ap (first_at s) (let e : i ≡ length s.firsts - 1 = omega (arith, top, under, within, length_added, every.some) in e) in
                    omega (arith, before, last, same, above)
              ]
        ];
    within = λ i within.
        let version = adds.version in
        rw version (elim (cases_lt i (length s.firsts)) [
          | inl early ↦ let small = every.within i early in omega (arith, small, first_early i early)
          | inr late ↦ omega (arith, fits, first_late i (omega (arith, late, within, length_added)))
        ]);
  }

-- a stretch is not empty, ends among the addresses, and the next one begins right after it
module _ (s : StretchesModel) (every : HasEveryAddress s) where
  pub next_first : (i : ℕ) → i + 1 < length s.firsts → first_at s (i + 1) ≡ last_at s i + 1
  next_first i more = omega (arith, last_before s i more, every.ascending i (i + 1) (omega arith) more)

  pub ordered_at : (i : ℕ) → i < length s.firsts → first_at s i ≤ last_at s i
  ordered_at i below = elim (cases_lt (i + 1) (length s.firsts)) [
    | inl more ↦ omega (arith, next_first i more, every.ascending i (i + 1) (omega arith) more)
    | inr end ↦ omega (arith, last_end s i end, every.within i below)
  ]

  -- an address of a stretch is among those of the version
  pub held_fits : (a i : ℕ) → HoldsAddress s a i → a < 2 ^ width_of s.version
  held_fits a i holds = elim (cases_lt (i + 1) (length s.firsts)) [
    | inl more ↦ omega (arith, holds.to, next_first i more, every.within (i + 1) more)
    | inr end ↦ omega (arith, holds.to, last_end s i end, pow_pos (width_of s.version))
  ]

  -- of two stretches the earlier one ends before the later one begins
  pub ends_before : (i j : ℕ) → i < j → j < length s.firsts → last_at s i < first_at s j
  ends_before i j less below = elim (cases_lt (i + 1) j) [
    | inl more ↦ omega (arith, next_first i (omega (arith, less, below)), every.ascending (i + 1) j more below)
    | inr next ↦
        let same : first_at s (i + 1) ≡ first_at s j = ap (first_at s) (let e : i + 1 ≡ j = omega (arith, less, next) in e) in
        omega (arith, next_first i (omega (arith, less, below)), same)
  ]

  -- of two addresses the lower one is not in a later stretch, and if they are in two, it is in the earlier one
  module _ (a b i j : ℕ) (first : HoldsAddress s a i) (second : HoldsAddress s b j) (le : a ≤ b) where
    pub held_order : i ≤ j
    held_order = elim (cases_lt j i) [
      | inl less ↦
          let apart = ends_before j i less first.index in
          absurd (omega (arith, apart, first.from, second.to, le))
      | inr up ↦ up
    ]

    pub held_apart : (i ≡ j → ⊥) → last_at s i < b
    held_apart other = elim (cases_lt i j) [
      | inl less ↦ let apart = ends_before i j less second.index in omega (arith, apart, second.from)
      | inr down ↦ absurd (other (omega (arith, held_order, down)))
    ]

  -- the label text of an address is that of its stretch
  pub text_at_index : (table : List Label) (a i : ℕ) → HoldsAddress s a i
      → text_held table s a ≡ option_and_then (λ id. slice_get table id.0) (label_at s i)
  text_at_index table a i holds =
      ap (λ (k : ℕ). option_and_then (λ id. slice_get table id.0) (label_at s k)) (held_index s every a i holds)
