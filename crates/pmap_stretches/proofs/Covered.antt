-- Runs have each address once, in ascending order.
use Rattle.std.proofs.Common.{◌≡◌, ◌≢◌, ◌∙◌, ℕ, zero, suc, ◌+◌, ◌<◌, ◌≤◌, ◌⊎◌, inl, inr, ◌&&◌, Bool, true, false, cond, List, [], ◌∷◌, length, filter, nat_le, Option, ap, sym, refl, subst, arith}
use Rattle.std.specs.Prelude.{slice_index_or}
use Rattle.std.proofs.lemmas.Bool.{and_from, cases_lt, le-leb, lt-leb}
use Rattle.pmap_model.specs.MapModel.{Label}
use Rattle.pmap_stretches.specs.Runs.{AreRuns, HasOneRun, Run}
use Rattle.pmap_stretches.proofs.RunLists.{first-label, ordered}

abbrev has : ℕ → Run → Bool
has a r = nat_le r.low a && nat_le a r.high

-- the runs that have an address, if the first has it or not
kept : (a : ℕ) (r : Run) (rs : List Run) (b : Bool) → has a r ≡ b → filter (has a) (r ∷ rs) ≡ cond b (r ∷ filter (has a) rs) (filter (has a) rs)
kept a r rs b e = ap (λ c. cond c (r ∷ filter (has a) rs) (filter (has a) rs)) e

module _ (f : ℕ → Option Label) where
  -- no run has an address before the first
  none-before : (from to : ℕ) (rs : List Run) → AreRuns f from to rs → (a : ℕ) → a < from → filter (has a) rs ≡ []
  none-before from to [] are a before = refl
  none-before from to (r ∷ rs) are a before =
      kept a r rs false (ap (λ b. b && nat_le a r.high) (lt-leb r.low a (omega (arith, before, are.0))))
      ∙ none-before (r.high + 1) to rs are.3 a (omega (arith, before, are.0, are.1.some))

  -- the run of an address is the first, or one of the others
  pub one-run : (from to : ℕ) (rs : List Run) → AreRuns f from to rs → (a : ℕ) → from ≤ a → a < to → HasOneRun f rs a
  one-run from to [] are a ge lt = absurd (omega (arith, are, ge, lt))
  one-run from to (r ∷ rs) are a ge lt = by (cases_lt r.high a) (one-run (r.high + 1) to rs are.3 a)
    where
      after : a ≤ r.high → has a r ≡ true
      after le = and_from (nat_le r.low a) (nat_le a r.high) (le-leb r.low a (omega (arith, are.0, ge))) (le-leb a r.high le)

      past : r.high < a → has a r ≡ false
      past gt = ap (λ b. nat_le r.low a && b) (lt-leb a r.high gt) ∙ and_no (nat_le r.low a)
        where
          and_no : (b : Bool) → (b && false) ≡ false
          and_no true = refl
          and_no false = refl

      by : (r.high < a) ⊎ (a ≤ r.high) → (r.high + 1 ≤ a → a < to → HasOneRun f rs a) → HasOneRun f (r ∷ rs) a
      by (inl gt) ih =
          let (run, is, label) = ih (omega (arith, gt)) lt in
          (run, kept a r rs false (past gt) ∙ is, label)
      by (inr le) ih = (
        r,
        kept a r rs true (after le)
            ∙ ap (λ (l : List Run). r ∷ l) (none-before (r.high + 1) to rs are.3 a (omega (arith, le))),
        sym (are.1.each a (omega (arith, are.0, ge)) le),
      )

  -- each run begins right after the previous one, and has another label
  pub next-run : (from to : ℕ) (rs : List Run) → AreRuns f from to rs → (i : ℕ) (d : Run) → i + 1 < length rs
      → ((slice_index_or rs (i + 1) d).low ≡ (slice_index_or rs i d).high + 1)
      × ((slice_index_or rs (i + 1) d).label ≢ (slice_index_or rs i d).label)
  next-run from to [] are i d h = absurd (omega (arith, h))
  next-run from to (r ∷ []) are i d h = absurd (omega (arith, h))
  next-run from to (r ∷ s ∷ rs) are zero d h = (
    are.3.0,
    λ same. are.2 (omega (arith, are.3.0, are.3.1.some, ordered f (s.high + 1) to rs are.3.3))
        (ap f (sym are.3.0) ∙ first-label f s are.3.1 ∙ same),
  )
  next-run from to (r ∷ s ∷ rs) are (suc i) d h =
      let next : suc (i + 1) ≡ suc i + 1 = omega arith in
      subst
      (λ k. ((slice_index_or (r ∷ s ∷ rs) k d).low ≡ (slice_index_or (s ∷ rs) i d).high + 1)
      × ((slice_index_or (r ∷ s ∷ rs) k d).label ≢ (slice_index_or (s ∷ rs) i d).label))
      next (next-run (r.high + 1) to (s ∷ rs) are.3 i d (omega (arith, h)))
