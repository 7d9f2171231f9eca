use Rattle.std.proofs.Common.{◌≡◌, ℕ, suc, ◌+◌, ◌*◌, ◌/◌, ◌<◌, ◌≤◌, Bool, true, false, cond, ◌&&◌, ◌==◌, List, [], ◌∷◌, None, arith, filter, find, length, nat_le, refl, slice_get, sym, ap, ◌∙◌}
use Rattle.std.proofs.lemmas.Bool.Decides.{nat_tests}
use Rattle.std.proofs.lemmas.List.{nil_from_length}
use Rattle.prefix_keys.specs.Block.{block_number}
use Rattle.pmap_model.specs.ListModel.{Prefix}
use Rattle.pmap_model.specs.Settled.{one_if}
use Rattle.pmap_cert.proofs.Filters.{filter-filter, find-filter}
use Rattle.pmap_model.proofs.Blocks.{block_number-half}

-- The number of entries of a prefix list that pass a test, such as lying at or within a block.

-- the entry's block is the block of n bits with the number q
abbrev pub is_at : ℕ → ℕ → ℕ → Prefix → Bool
is_at W n q p = p.bits == n && block_number W n p.start == q

-- the entry's block is the block of n bits with the number q or lies inside it
abbrev pub is_within : ℕ → ℕ → ℕ → Prefix → Bool
is_within W n q p = nat_le n p.bits && block_number W n p.start == q

-- the number of entries that pass the test
abbrev pub count_of : (Prefix → Bool) → List Prefix → ℕ
count_of test ps = length (filter test ps)

count_of-cons : (b : Bool) (p : Prefix) (ps : List Prefix) → length (cond b (p ∷ ps) ps) ≡ one_if b + length ps
count_of-cons true p ps = omega arith
count_of-cons false p ps = omega arith

pub count_of-le : (test : Prefix → Bool) (ps : List Prefix) → count_of test ps ≤ length ps
count_of-le test [] = omega arith
count_of-le test (p ∷ ps) = let ih = count_of-le test ps in let e = count_of-cons (test p) p (filter test ps) in grind arith

-- if no entry passes a test, none passes a stronger one
pub find-none : (weak strong : Prefix → Bool) → ((p : Prefix) → strong p ≡ true → weak p ≡ true) → (ps : List Prefix) →
    count_of weak ps ≡ 0 → find strong ps ≡ None
find-none weak strong weaker ps none =
    find-filter strong ps
    ∙ ap (λ (qs : List Prefix). slice_get qs 0) (sym (filter-filter weak strong weaker ps) ∙ ap (filter strong) (nil_from_length (filter weak ps) none))

-- an entry within a block is at it or within one of its halves
within-halves : (n k b q : ℕ) → one_if (nat_le n k && b / 2 == q)
    ≡ one_if (k == n && b / 2 == q) + (one_if (nat_le (suc n) k && b == 2 * q) + one_if (nat_le (suc n) k && b == 2 * q + 1))
within-halves n k b q = grind (arith, nat_tests)

pub count_of-halves : (W n q : ℕ) → n < W → (ps : List Prefix) → count_of (is_within W n q) ps
    ≡ count_of (is_at W n q) ps + (count_of (is_within W (suc n) (2 * q)) ps + count_of (is_within W (suc n) (2 * q + 1)) ps)
count_of-halves W n q below [] = refl
count_of-halves W n q below (p ∷ ps) =
    let ih = count_of-halves W n q below ps in
    let e : block_number W n p.start ≡ block_number W (suc n) p.start / 2 = block_number-half W n p.start below in
    let h = within-halves n p.bits (block_number W (suc n) p.start) q in
    let h' : one_if (is_within W n q p)
    ≡ one_if (is_at W n q p) + (one_if (is_within W (suc n) (2 * q) p) + one_if (is_within W (suc n) (2 * q + 1) p)) = rw e h in
    omega (
      arith,
      count_of-cons (is_within W n q p) p (filter (is_within W n q) ps),
      count_of-cons (is_at W n q p) p (filter (is_at W n q) ps),
      count_of-cons (is_within W (suc n) (2 * q) p) p (filter (is_within W (suc n) (2 * q)) ps),
      count_of-cons (is_within W (suc n) (2 * q + 1) p) p (filter (is_within W (suc n) (2 * q + 1)) ps),
    )
