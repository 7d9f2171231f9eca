use Rattle.std.proofs.Common.{ℕ, zero, suc, ◌≡◌, ◌+◌, ◌-◌, ◌*◌, ◌%◌, ◌^◌, ◌<◌, ◌≤◌, ◌==◌, ◌++◌, ◌∙◌, List, [], ◌∷◌, Option, Some, None, length, replicate, ap, sym, refl, arith, nat_le, if◌then◌else◌, mul_assoc, option_and_then}
use Rattle.std.specs.List.{fold}
use Rattle.std.proofs.Math.Nat.{pow-le-pow_right, mul-le-mul_right}
use Rattle.std.proofs.Math.Numerals.{suc-eq-add-one}
use Rattle.std.proofs.lemmas.Nat.{pow-add, shl_below, shl_whole}
use Rattle.std.proofs.lemmas.List.{length-append, length-replicate}
use Rattle.std.proofs.lemmas.List.Sums.{fold-append}
use Rattle.std.proofs.lemmas.Bool.Decides.{nat_tests}
use Rattle.prefix_keys.specs.Text.{groups_number, gap_address}
use Rattle.prefix_keys.specs.Inner.{more_groups}

-- Groups of 16 bits and the numbers that they form.

-- one group more
abbrev pub next_step : ℕ → ℕ → ℕ
next_step n group = n * 65536 + group

-- c groups form a number of 16 * c bits
pub bits-more : (c : ℕ) → 2 ^ (16 * (c + 1)) ≡ 2 ^ (16 * c) * 65536
bits-more c = let e : 16 * (c + 1) ≡ 16 * c + 16 = omega arith in ap (λ k. 2 ^ k) e ∙ pow-add 2 (16 * c) 16

pub number-more : (n c g : ℕ) → n < 2 ^ (16 * c) → g < 65536 → n * 65536 + g < 2 ^ (16 * (c + 1))
number-more n c g h small = let e = bits-more c in omega arith

pub bits-within : (c : ℕ) → c ≤ 8 → 2 ^ (16 * c) ≤ 2 ^ 128
bits-within c h = pow-le-pow_right {n = 2} (omega arith) {i = 16 * c} {j = 128} (omega arith)

-- groups after a number
times-more : (n g p q : ℕ) → q ≡ p * 65536 → (n * 65536 + g) * p ≡ n * q + g * p
times-more n g p q e = rw e (omega arith)

pub groups-following : (n : ℕ) (groups : List ℕ) → fold next_step n groups ≡ n * 2 ^ (16 * length groups) + groups_number groups
groups-following n [] = omega arith
groups-following n (g ∷ groups) =
    let p : ℕ = 2 ^ (16 * length groups) in
    let more : 2 ^ (16 * length (g ∷ groups)) ≡ p * 65536 =
    ap (λ k. 2 ^ (16 * k)) (suc-eq-add-one (length groups)) ∙ bits-more (length groups) in
    let here : fold next_step (n * 65536 + g) groups ≡ (n * 65536 + g) * p + groups_number groups =
    groups-following (n * 65536 + g) groups in
    let first : fold next_step (0 * 65536 + g) groups ≡ (0 * 65536 + g) * p + groups_number groups =
    groups-following (0 * 65536 + g) groups in
    let split : (n * 65536 + g) * p ≡ n * 2 ^ (16 * length (g ∷ groups)) + g * p = times-more n g p _ more in
    omega arith

-- leading groups of zero don't change the number
pub zeros-following : (k : ℕ) (groups : List ℕ) → groups_number (replicate k 0 ++ groups) ≡ groups_number groups
zeros-following zero groups = refl
zeros-following (suc k) groups = zeros-following k groups

-- groups with zeros between
pub number-between : (front back : List ℕ) (k : ℕ) →
    groups_number (front ++ (replicate k 0 ++ back))
    ≡ groups_number front * 2 ^ (16 * (k + length back)) + groups_number back
number-between front back k =
    let e : length (replicate k 0 ++ back) ≡ k + length back = omega (arith, length-append (replicate k 0) back, length-replicate {A = ℕ} k 0) in
    fold-append next_step 0 front (replicate k 0 ++ back)
    ∙ groups-following (groups_number front) (replicate k 0 ++ back)
    ∙ ap (λ n. groups_number front * 2 ^ (16 * n) + groups_number (replicate k 0 ++ back)) e
    ∙ ap (λ n. groups_number front * 2 ^ (16 * (k + length back)) + n) (zeros-following k back)

-- the count and the number of at most eight groups
pub counted-count : (groups : List ℕ) (c n : ℕ) → Some (c, n) ≡ more_groups 0 0 (Some groups) → c ≡ length groups
counted-count groups c n h = grind (arith, nat_tests)

pub counted-number : (groups : List ℕ) (c n : ℕ) → Some (c, n) ≡ more_groups 0 0 (Some groups) → n ≡ groups_number groups
counted-number groups c n h = grind (arith, nat_tests)

pub too_many : (groups : List ℕ) → None ≡ more_groups 0 0 (Some groups) → 8 < length groups
too_many groups h = grind (arith, nat_tests)

-- the address of eight groups
abbrev pub whole_address : Option (List ℕ) → Option ℕ
whole_address groups = option_and_then (λ groups. if length groups == 8 then Some (groups_number groups) else None) groups

pub whole-some : (x : Option (List ℕ)) (c n : ℕ) → Some (c, n) ≡ more_groups 0 0 x → whole_address x ≡ if c == 8 then Some n else None
whole-some None c n h = cc
whole-some (Some groups) c n h =
    let count = counted-count groups c n h in
    let number = counted-number groups c n h in
    cc

pub whole-none : (x : Option (List ℕ)) → None ≡ more_groups 0 0 x → whole_address x ≡ None
whole-none None h = refl
whole-none (Some groups) h = let many = too_many groups h in grind (arith, nat_tests)

pub gap-no_back : (x y : Option (List ℕ)) → None ≡ more_groups 0 0 y → gap_address x y ≡ None
gap-no_back None y h = refl
gap-no_back (Some front) None h = refl
gap-no_back (Some front) (Some back) h = let many = too_many back h in grind (arith, nat_tests)

if_same : (a b x y : ℕ) → (a ≤ b → x ≡ y) → (if nat_le a b then Some x else None) ≡ (if nat_le a b then Some y else None)
if_same a b x y same = grind (arith, nat_tests, same)

gap-number : (front back : List ℕ) →
    gap_address (Some front) (Some back)
    ≡ (if nat_le (length front + length back) 7
    then Some (groups_number front * 2 ^ (16 * (8 - length front)) + groups_number back)
    else None)
gap-number front back =
    let f : ℕ = length front in
    let b : ℕ = length back in
    if_same (f + b) 7 _ _
    (λ small. let e : 8 - (f + b) + b ≡ 8 - f = omega arith in
    number-between front back (8 - (f + b)) ∙ ap (λ k. groups_number front * 2 ^ (16 * k) + groups_number back) e)

pub gap-some : (x y : Option (List ℕ)) (c n d m : ℕ) → Some (c, n) ≡ more_groups 0 0 x → Some (d, m) ≡ more_groups 0 0 y →
    gap_address x y ≡ (if nat_le (c + d) 7 then Some (n * 2 ^ (16 * (8 - c)) + m) else None)
gap-some None y c n d m h k = cc
gap-some (Some front) None c n d m h k = cc
gap-some (Some front) (Some back) c n d m h k =
    rw (counted-count front c n h, counted-number front c n h, counted-count back d m k, counted-number back d m k)
    (gap-number front back)

-- groups moved to the front of eight
pub moved : (n c : ℕ) → n < 2 ^ (16 * c) → c ≤ 7 → (n * 2 ^ (16 * (7 - c)) % 2 ^ 128) * 2 ^ 16 % 2 ^ 128 ≡ n * 2 ^ (16 * (8 - c))
moved n c fits few =
    let k : ℕ = 16 * (7 - c) in
    let once : n * 2 ^ k % 2 ^ 128 ≡ n * 2 ^ k = shl_whole n (16 * c) k 128 fits (omega arith) in
    let room : 16 * c + k ≡ 112 = omega arith in
    let below : n * 2 ^ k < 2 ^ 112 = rw room at (shl_below n (16 * c) k fits) in
    let twice : n * 2 ^ k * 2 ^ 16 % 2 ^ 128 ≡ n * 2 ^ k * 2 ^ 16 = shl_whole (n * 2 ^ k) 112 16 128 below (omega arith) in
    let e : 16 * (8 - c) ≡ k + 16 = omega arith in
    ap (λ a. a * 2 ^ 16 % 2 ^ 128) once
    ∙ twice
    ∙ mul_assoc n (2 ^ k) (2 ^ 16)
    ∙ ap (λ a. n * a) (sym (pow-add 2 k 16) ∙ ap (λ k. 2 ^ k) (sym e))

-- eight groups fit 128 bits
pub join-fits : (n c m d : ℕ) → n < 2 ^ (16 * c) → m < 2 ^ (16 * d) → c + d ≤ 7 → n * 2 ^ (16 * (8 - c)) + m < 2 ^ 128
join-fits n c m d front back few =
    let k : ℕ = 16 * (8 - c) in
    let e : 128 ≡ 16 * c + k = omega arith in
    let all : 2 ^ 128 ≡ 2 ^ (16 * c) * 2 ^ k = ap (λ a. 2 ^ a) e ∙ pow-add 2 (16 * c) k in
    let room : (n + 1) * 2 ^ k ≤ 2 ^ (16 * c) * 2 ^ k = mul-le-mul_right (2 ^ k) (omega arith) in
    let under : 2 ^ (16 * d) ≤ 2 ^ k = pow-le-pow_right {n = 2} (omega arith) {i = 16 * d} {j = k} (omega arith) in
    omega arith
