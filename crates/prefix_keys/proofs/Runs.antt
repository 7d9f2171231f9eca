use Rattle.std.proofs.Common.{ℕ, zero, suc, ◌≡◌, ◌==◌, ◌+◌, ◌<◌, ◌≤◌, ◌∙◌, cond, List, [], ◌∷◌, take, drop, get_or, ap, sym, refl, subst, inl, inr, arith, add-one, eq-eqb}
use Rattle.std.proofs.lemmas.Bool.{cases_eq, cases_lt, ne_eqb, le-leb, lt-leb}
use Rattle.prefix_keys.specs.Print.{longer_run, longest_run, IsZeroRun, LongestRunIsLongest}
use Rattle.std.specs.List.{prefix_len}

-- Runs of zeros.

-- the number of zeros at the start of groups
abbrev pub zeros_ahead : List ℕ → ℕ
zeros_ahead groups = prefix_len (λ group. group == 0) groups

ahead-zero : (group : ℕ) (groups : List ℕ) → group ≡ 0 → zeros_ahead (group ∷ groups) ≡ suc (zeros_ahead groups)
ahead-zero group groups e = ap (λ t. cond t (1 + zeros_ahead groups) 0) (eq-eqb group 0 e) ∙ omega arith

ahead-other : (group : ℕ) (groups : List ℕ) → (group ≡ 0 → ⊥) → zeros_ahead (group ∷ groups) ≡ 0
ahead-other group groups e = ap (λ t. cond t (1 + zeros_ahead groups) 0) (ne_eqb group 0 e)

-- the zeros at the start are a run
ahead_is_run : (groups : List ℕ) → IsZeroRun groups 0 (zeros_ahead groups)
ahead_is_run [] = refl
ahead_is_run (group ∷ groups) = elim (cases_eq group 0) [
  | inl e ↦
      rw (ahead-zero group groups e)
      (ap (λ g. g ∷ take (zeros_ahead groups) groups) e ∙ ap (λ rest. 0 ∷ rest) (ahead_is_run groups))
  | inr e ↦ rw (ahead-other group groups e) refl
]

-- and no run at the start is longer
run_is_ahead : (groups : List ℕ) (len : ℕ) → IsZeroRun groups 0 len → len ≤ zeros_ahead groups
run_is_ahead groups zero h = omega arith
run_is_ahead [] (suc len) h = cc
run_is_ahead (group ∷ groups) (suc len) h =
    let first : group ≡ 0 = ap (λ xs. get_or xs 0 0) h in
    omega (arith, ahead-zero group groups first, run_is_ahead groups len (ap (drop 1) h))

longer-here : (here : ℕ) (run : ℕ × ℕ) → run.1 ≤ here → longer_run here run ≡ (0, here)
longer-here here run h = ap (λ t. cond t (0, here) (run.0 + 1, run.1)) (le-leb run.1 here h)

longer-later : (here : ℕ) (run : ℕ × ℕ) → here < run.1 → longer_run here run ≡ (run.0 + 1, run.1)
longer-later here run h = ap (λ t. cond t (0, here) (run.0 + 1, run.1)) (lt-leb run.1 here h)

pub longest_is_run : (groups : List ℕ) → IsZeroRun groups (longest_run groups).0 (longest_run groups).1
longest_is_run [] = refl
longest_is_run (group ∷ groups) =
    let here : ℕ = zeros_ahead (group ∷ groups) in
    let later : ℕ × ℕ = longest_run groups in
    let P : ℕ × ℕ → Type 0 = λ run. IsZeroRun (group ∷ groups) run.0 run.1 in
    elim (cases_lt here later.1) [
      | inl l ↦ subst P (sym (longer-later here later l)) (rw add-one (longest_is_run groups))
      | inr l ↦ subst P (sym (longer-here here later l)) (ahead_is_run (group ∷ groups))
    ]

longer-le : (here : ℕ) (run : ℕ × ℕ) → (here ≤ (longer_run here run).1) × (run.1 ≤ (longer_run here run).1)
longer-le here run = elim (cases_lt here run.1) [
  | inl l ↦ let e = ap (λ r. r.1) (longer-later here run l) in (omega (arith, e), omega (arith, e))
  | inr l ↦ let e = ap (λ r. r.1) (longer-here here run l) in (omega (arith, e), omega (arith, e))
]

no_longer_run : (groups : List ℕ) (start len : ℕ) → IsZeroRun groups start len → len ≤ (longest_run groups).1
no_longer_run [] start zero h = omega arith
no_longer_run [] zero (suc len) h = cc
no_longer_run [] (suc start) (suc len) h = cc
no_longer_run (group ∷ groups) zero len h =
    omega (arith, run_is_ahead (group ∷ groups) len h, (longer-le (zeros_ahead (group ∷ groups)) (longest_run groups)).0)
no_longer_run (group ∷ groups) (suc start) len h =
    omega (arith, no_longer_run groups start len h, (longer-le (zeros_ahead (group ∷ groups)) (longest_run groups)).1)

no_earlier_run : (groups : List ℕ) (start : ℕ) → IsZeroRun groups start (longest_run groups).1 → (longest_run groups).0 ≤ start
no_earlier_run [] start h = omega arith
no_earlier_run (group ∷ groups) zero h =
    let here : ℕ = zeros_ahead (group ∷ groups) in
    let later : ℕ × ℕ = longest_run groups in
    elim (cases_lt here later.1) [
      | inl l ↦
          absurd (omega (
            arith,
            ap (λ run. run.1) (longer-later here later l),
            run_is_ahead (group ∷ groups) (longest_run (group ∷ groups)).1 h,
          ))
      | inr l ↦ omega (arith, ap (λ run. run.0) (longer-here here later l))
    ]
no_earlier_run (group ∷ groups) (suc start) h =
    let here : ℕ = zeros_ahead (group ∷ groups) in
    let later : ℕ × ℕ = longest_run groups in
    elim (cases_lt here later.1) [
      | inl l ↦
          let is : longest_run (group ∷ groups) ≡ (later.0 + 1, later.1) = longer-later here later l in
          omega (
            arith,
            ap (λ run. run.0) is,
            no_earlier_run groups start (subst (IsZeroRun groups start) (ap (λ run. run.1) is) h),
          )
      | inr l ↦ omega (arith, ap (λ run. run.0) (longer-here here later l))
    ]

pub longest_run_is_longest : LongestRunIsLongest
longest_run_is_longest groups = (longest_is_run groups, no_longer_run groups, no_earlier_run groups)
