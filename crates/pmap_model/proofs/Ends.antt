-- The ends of mappings inside blocks, which bound how often a block is divided.
use Rattle.std.proofs.Common.{◌≡◌, ℕ, suc, ◌+◌, ◌-◌, ◌*◌, ◌^◌, ◌<◌, ◌≤◌, Bool, true, false, ◌&&◌, List, [], ◌∷◌, Option, Some, None, arith, length, nat_le, nat_lt, pow_pos, refl, sym, subst, inl, inr}
use Rattle.std.proofs.Math.Nat.{mul-le-mul_right}
use Rattle.std.proofs.lemmas.Bool.Decides.{nat_tests}
use Rattle.std.proofs.lemmas.List.{length-map}
use Rattle.prefix_keys.specs.Block.{first_of, last_of}
use Rattle.pmap_model.specs.MapModel.{Label, Mapping, last_such, meets, settled_by, spans_all}
use Rattle.pmap_model.specs.MapText.{mapping_of, Statement, mappings_of}
use Rattle.pmap_model.specs.Settled.{ends, ends_inside, ends_of_mapping, one_if}
use Rattle.pmap_model.proofs.Blocks.{first_of-lower, pow-half}
use Rattle.pmap_model.proofs.LastSuch.{last_such-cases, last_such-passes}

-- no map of the statements settles the block
abbrev pub IsUnsettled : ℕ → List Statement → ℕ → ℕ → Type 0
IsUnsettled W ss n q =
    (table : List Label) (x : Label) → settled_by W n q x (last_such (meets W n q) (mappings_of table ss)) ≡ None

ends_of-split : (first middle last : ℕ) (m : Mapping) → first ≤ middle → middle + 1 ≤ last
    → ends_of_mapping first middle m + ends_of_mapping (middle + 1) last m ≤ ends_of_mapping first last m
unfolding ends_of_mapping
ends_of-split first middle last m le le' = by m.low m.high le le'
  where
    by : (low high : ℕ) → first ≤ middle → middle + 1 ≤ last
        → one_if (nat_lt first low && nat_le low middle) + one_if (nat_le first high && nat_lt high middle)
        + (one_if (nat_lt (middle + 1) low && nat_le low last) + one_if (nat_le (middle + 1) high && nat_lt high last))
        ≤ one_if (nat_lt first low && nat_le low last) + one_if (nat_le first high && nat_lt high last)
    by low high le le' = grind (arith, nat_tests)

ends-split : (first middle last : ℕ) (ms : List Mapping) → first ≤ middle → middle + 1 ≤ last
    → ends first middle ms + ends (middle + 1) last ms ≤ ends first last ms
unfolding ends
ends-split first middle last [] le le' = omega arith
ends-split first middle last (m ∷ ms) le le' =
    let here = ends_of-split first middle last m le le' in
    let rest = ends-split first middle last ms le le' in
    omega arith

-- the ends inside two neighbouring runs of addresses are at most those inside both together
ends-parted : (first first' middle middle' last last' : ℕ) (ms : List Mapping) → first' ≡ first → middle' ≡ middle + 1 → last' ≡ last
    → first ≤ middle → middle + 1 ≤ last → ends first' middle ms + ends middle' last' ms ≤ ends first last ms
ends-parted first first' middle middle' last last' ms e f g le le' = rw (e, f, g) (ends-split first middle last ms le le')

ends_of-two : (first last : ℕ) (m : Mapping) → ends_of_mapping first last m ≤ 2
unfolding ends_of_mapping
ends_of-two first last m = by (nat_lt first m.low && nat_le m.low last) (nat_le first m.high && nat_lt m.high last)
  where
    by : (a b : Bool) → one_if a + one_if b ≤ 2
    by true true = omega arith
    by true false = omega arith
    by false true = omega arith
    by false false = omega arith

pub ends-few : (first last : ℕ) (ms : List Mapping) → ends first last ms ≤ 2 * length ms
unfolding ends
ends-few first last [] = omega arith
ends-few first last (m ∷ ms) =
    let here = ends_of-two first last m in
    let rest = ends-few first last ms in
    omega arith

-- a mapping that meets a block but doesn't cover it has an end inside
ends_of-met : (W n q : ℕ) (m : Mapping) → meets W n q m ≡ true → spans_all W n q m ≡ false → 1 ≤ ends_of_mapping (first_of W n q) (last_of W n q) m
unfolding ends_of_mapping
ends_of-met W n q m met part = by m.low m.high (first_of W n q) (last_of W n q) met part
  where
    by : (low high first last : ℕ) → (nat_le low last && nat_le first high) ≡ true → (nat_le low first && nat_le last high) ≡ false
        → 1 ≤ one_if (nat_lt first low && nat_le low last) + one_if (nat_le first high && nat_lt high last)
    by low high first last met part = grind (arith, nat_tests)

ends-last : (first last : ℕ) (test : Mapping → Bool) (ms : List Mapping) (s : Mapping) → last_such test ms ≡ Some s → ends_of_mapping first last s ≤ ends first last ms
unfolding ends
ends-last first last test [] s e = absurd cc
ends-last first last test (m ∷ ms) s e =
    elim (last_such-cases test m ms s e) [
      | inl h ↦ let rest = ends-last first last test ms s h in omega arith
      | inr h ↦ subst (λ (p : Mapping). ends_of_mapping first last p ≤ ends_of_mapping first last m + ends first last ms) h.2 (omega arith)
    ]

-- a block that isn't settled has an end inside
pub ends-unsettled_by : (W n q : ℕ) (fallback : Label) (ms : List Mapping) (o : Option Mapping) → last_such (meets W n q) ms ≡ o
    → settled_by W n q fallback o ≡ None → 1 ≤ ends (first_of W n q) (last_of W n q) ms
ends-unsettled_by W n q fallback ms None last h = absurd cc
ends-unsettled_by W n q fallback ms (Some s) last h = by (spans_all W n q s) refl
  where
    by : (b : Bool) → spans_all W n q s ≡ b → 1 ≤ ends (first_of W n q) (last_of W n q) ms
    by true all = absurd (some (rw all at h))
      where
        some : ◌≡◌ {A = Option Label} (Some s.label) None → ⊥
        some e = cc
    by false part =
        let here = ends_of-met W n q s (last_such-passes (meets W n q) ms s last) part in
        let inside = ends-last (first_of W n q) (last_of W n q) (meets W n q) ms s last in
        omega arith

-- the ends inside a block's halves are ends inside the block
pub ends-halves : (W n q : ℕ) (ms : List Mapping) → n < W
    → ends (first_of W (suc n) (2 * q)) (last_of W (suc n) (2 * q)) ms + ends (first_of W (suc n) (2 * q + 1)) (last_of W (suc n) (2 * q + 1)) ms
    ≤ ends (first_of W n q) (last_of W n q) ms
ends-halves W n q ms below =
    let some : 0 < 2 ^ (W - suc n) = pow_pos (W - suc n) in
    let lower : first_of W (suc n) (2 * q) ≡ first_of W n q = first_of-lower W n q below in
    let half : 2 ^ (W - n) ≡ 2 ^ (W - suc n) * 2 = pow-half W n below in
    let middle : first_of W (suc n) (2 * q + 1) ≡ last_of W (suc n) (2 * q) + 1 = omega arith in
    let upper : last_of W (suc n) (2 * q + 1) ≡ last_of W n q = rw half (omega arith) in
    ends-parted (first_of W n q) (first_of W (suc n) (2 * q)) (last_of W (suc n) (2 * q)) (first_of W (suc n) (2 * q + 1))
    (last_of W n q) (last_of W (suc n) (2 * q + 1)) ms lower middle upper (omega arith) (omega arith)

pub halves-most : (a b c h : ℕ) → a + b ≤ c → 0 < c → 1 + (a * h + b * h) ≤ c * suc h
halves-most a b c h halves some =
    let sum : (a + b) * h ≤ c * h = mul-le-mul_right h halves in
    omega arith

-- a block that isn't settled is divided more often than its halves together
pub divided-most : (W : ℕ) (ss : List Statement) (n q : ℕ) → n < W → IsUnsettled W ss n q
    → 1 + (ends_inside W ss (suc n) (2 * q) * (W - suc n) + ends_inside W ss (suc n) (2 * q + 1) * (W - suc n)) ≤ ends_inside W ss n q * (W - n)
divided-most W ss n q below none =
    let host : suc (W - suc n) ≡ W - n = omega arith in
    let ms = mappings_of [] ss in
    subst (λ (h : ℕ). 1 + (ends_inside W ss (suc n) (2 * q) * (W - suc n) + ends_inside W ss (suc n) (2 * q + 1) * (W - suc n)) ≤ ends_inside W ss n q * h) host
    (halves-most (ends_inside W ss (suc n) (2 * q)) (ends_inside W ss (suc n) (2 * q + 1)) (ends_inside W ss n q) (W - suc n) (ends-halves W n q ms below)
    (ends-unsettled_by W n q [] ms (last_such (meets W n q) ms) refl (none [] [])))

-- the ends of statements bound how often the address space is divided
pub ends_most : (W : ℕ) (ss : List Statement) → ends_inside W ss 0 0 * (W - 0) ≤ 2 * W * length ss
ends_most W ss =
    let few = subst (λ (n : ℕ). ends_inside W ss 0 0 ≤ 2 * n) (length-map ss (mapping_of [])) (ends-few (first_of W 0 0) (last_of W 0 0) (mappings_of [] ss)) in
    let all : W - 0 ≡ W = omega arith in
    subst (λ (h : ℕ). ends_inside W ss 0 0 * h ≤ 2 * W * length ss) (sym all) (omega (arith, mul-le-mul_right W few))
