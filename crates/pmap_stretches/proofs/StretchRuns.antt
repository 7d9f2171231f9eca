-- Stretches are the runs of their labels if neighbours have different labels.
use Rattle.std.proofs.Common.{◌≡◌, ◌≢◌, ℕ, zero, suc, ◌+◌, ◌^◌, ◌<◌, ◌≤◌, inl, inr, List, [], ◌∷◌, Option, Some, None, refl, sym, ◌∙◌, ap, subst, arith, cond, length, option_and_then, slice_get}
use Rattle.std.specs.Prelude.{nat_lt}
use Rattle.std.specs.Option.{ForSome}
use Rattle.std.proofs.lemmas.Bool.{cases_lt, le-ltb, lt-ltb}
use Rattle.std.proofs.lemmas.Nat.{pow_pos}
use Rattle.prefix_keys.specs.Block.{width_of}
use Rattle.pmap_model.specs.Label.{IsLabelTable}
use Rattle.pmap_model.specs.MapModel.{Label}
use Rattle.pmap_model.specs.MapText.{text_at}
use Rattle.pmap_stretches.specs.Stretches.{AreJoined, AreLabelsBelow, HasEveryAddress, StretchesModel, first_at, label_at, last_at, text_held}
use Rattle.pmap_model.specs.declared.label.LabelId.{LabelId}
use Rattle.pmap_stretches.proofs.Orders.{known_text}
use Rattle.pmap_stretches.proofs.Ranges.{last_end, next_first, ordered_at, text_at_index}
use Rattle.pmap_stretches.specs.Runs.{AreRuns, Run}
use Rattle.pmap_stretches.specs.RunsText.{run_at}

-- the text of a label
abbrev pub label_text : List Label → Option LabelId → Option Label
label_text table label = option_and_then (λ id. slice_get table id.0) label

-- in a table of distinct texts, labels with different numbers have different texts
none-text : (table : List Label) (j : ℕ) → j < length table → None ≢ slice_get table j
none-text table j known same = let h : None ≡ Some (text_at table j) = same ∙ known_text table j known in cc

other-label : (table : List Label) → IsLabelTable table → (x y : Option LabelId) → ForSome x (λ id. id.0 < length table) → ForSome y (λ id. id.0 < length table)
    → x ≢ y → label_text table x ≢ label_text table y
other-label table is None None kx ky other = absurd (other refl)
other-label table is None (Some j) kx ky other = none-text table j.0 (ky j refl)
other-label table is (Some i) None kx ky other = λ same. none-text table i.0 (kx i refl) (sym same)
other-label table is (Some i) (Some j) kx ky other = λ same.
    let here = is.places i.0 (text_at table i.0) (known_text table i.0 (kx i refl)) in
    let there = is.places j.0 (text_at table i.0) (sym same ∙ known_text table i.0 (kx i refl)) in
    let both : Some i.0 ≡ Some j.0 = sym here ∙ there in
    let number : i.0 ≡ j.0 = cc in
    other (ap (λ (n : ℕ). Some (record { 0 = n })) number)

-- where the stretch with an index begins; after the last one the addresses end
abbrev pub begin_at : StretchesModel → ℕ → ℕ
begin_at s i = cond (nat_lt i (length s.firsts)) (first_at s i) (2 ^ width_of s.version)

-- `count` stretches from an index on
abbrev pub runs_from : List Label → StretchesModel → ℕ → ℕ → List Run
runs_from table s i zero = []
runs_from table s i (suc count) = run_at table s i ∷ runs_from table s (i + 1) count

module _ (table : List Label) (distinct : IsLabelTable table) (s : StretchesModel) (every : HasEveryAddress s) (known : AreLabelsBelow (length table) s)
    (joined : AreJoined s) where
  begins : (i : ℕ) → i < length s.firsts → begin_at s i ≡ first_at s i
  begins i within = ap (λ b. cond b (first_at s i) (2 ^ width_of s.version)) (lt-ltb i (length s.firsts) within)

  ends : (i : ℕ) → length s.firsts ≤ i → begin_at s i ≡ 2 ^ width_of s.version
  ends i past = ap (λ b. cond b (first_at s i) (2 ^ width_of s.version)) (le-ltb i (length s.firsts) past)

  label_known : (i : ℕ) → i < length s.firsts → ForSome (label_at s i) (λ id. id.0 < length table)
  label_known i inside = known i None (omega (arith, inside, every.paired))

  text_in : (a i : ℕ) → i < length s.firsts → first_at s i ≤ a → a ≤ last_at s i → text_held table s a ≡ label_text table (label_at s i)
  text_in a i within from to = text_at_index s every table a i (record { index = within; from = from; to = to })

  after : (i : ℕ) → i < length s.firsts → last_at s i + 1 ≡ begin_at s (i + 1)
  after i within = elim (cases_lt (i + 1) (length s.firsts)) [
    | inl more ↦ sym (begins (i + 1) more ∙ next_first s every i more)
    | inr end ↦ omega (arith, last_end s i end, ends (i + 1) end, pow_pos (width_of s.version))
  ]

  differs : (i : ℕ) → i < length s.firsts → last_at s i + 1 < 2 ^ width_of s.version
      → text_held table s (last_at s i + 1) ≢ label_text table (label_at s i)
  differs i within inside = elim (cases_lt (i + 1) (length s.firsts)) [
    | inl more ↦ λ same.
        let next = next_first s every i more in
        other-label table distinct (label_at s (i + 1)) (label_at s i) (label_known (i + 1) more) (label_known i within) (joined i more)
        (sym (text_in (last_at s i + 1) (i + 1) more (omega (arith, next)) (omega (arith, next, ordered_at s every (i + 1) more))) ∙ same)
    | inr end ↦ absurd (omega (arith, last_end s i end, inside))
  ]

  runs_after : (i count : ℕ) → i + count ≡ length s.firsts
      → AreRuns (text_held table s) (begin_at s i) (2 ^ width_of s.version) (runs_from table s i count)
  runs_after i zero all = ends i (omega (arith, all))
  runs_after i (suc count) all =
      let within : i < length s.firsts = omega (arith, all) in (
        sym (begins i within),
        record { some = ordered_at s every i within; each = λ a from to. text_in a i within from to },
        differs i within,
        subst (λ (from : ℕ). AreRuns (text_held table s) from (2 ^ width_of s.version) (runs_from table s (i + 1) count)) (sym (after i within))
            (runs_after (i + 1) count (omega (arith, all))),
      )

  -- stretches with different labels are the runs of the labelling
  pub all_runs : AreRuns (text_held table s) 0 (2 ^ width_of s.version) (runs_from table s 0 (length s.firsts))
  all_runs =
      subst (λ (from : ℕ). AreRuns (text_held table s) from (2 ^ width_of s.version) (runs_from table s 0 (length s.firsts)))
      (begins 0 every.some ∙ every.zero) (runs_after 0 (length s.firsts) (omega arith))
