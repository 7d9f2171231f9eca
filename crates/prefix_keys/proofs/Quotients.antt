use Rattle.std.proofs.Common.{ℕ, ◌≡◌, ◌+◌, ◌-◌, ◌*◌, ◌/◌, ◌%◌, ◌^◌, ◌<◌, ◌≤◌, ◌∙◌, ap, arith, bit_and, lit≤}
use Rattle.prefix_keys.specs.Block.{width_of, Version, V4, V6}
use Rattle.std.proofs.Math.Nat.{mul-le-mul_right}
use Rattle.std.proofs.lemmas.Nat.{pow_pos, pow-add, and_mask, div-mul-add, div_below, mod-mul-add}

-- Blocks of d numbers each, counted from 0: q * d is the first number of the block q.

-- a number without a remainder is the first of its block
pub whole : (v d : ℕ) → 0 < d → v % d ≡ 0 → v / d * d ≡ v
whole v d some none = omega arith

-- a number is between the ends of its block
pub above_first : (a d q : ℕ) → 0 < d → a / d ≡ q → q * d ≤ a
above_first a d q some e = rw (← e) (omega arith)

pub below_end : (a d q : ℕ) → 0 < d → a / d ≡ q → a < (q + 1) * d
below_end a d q some e = rw (← e) (omega arith)

-- a number between the ends of a block is in it
pub quotient_is : (a d q : ℕ) → 0 < d → q * d ≤ a → a < (q + 1) * d → a / d ≡ q
quotient_is a d q some low high =
    let e : a ≡ q * d + (a - q * d) = omega arith in
    ap (λ n. n / d) e ∙ div-mul-add q d (a - q * d) (omega arith)

-- a number less its remainder is the first of its block
pub cleared : (a d : ℕ) → 0 < d → a - a % d ≡ a / d * d
cleared a d some = omega arith

pub cleared-mod : (a d : ℕ) → 0 < d → (a - a % d) % d ≡ 0
cleared-mod a d some =
    let e : a - a % d ≡ a / d * d + 0 = omega arith in
    ap (λ n. n % d) e ∙ mod-mul-add (a / d) d 0 some

-- `&` with a power of two less one
pub and_low : (a mask k : ℕ) → mask + 1 ≡ 2 ^ k → bit_and a mask ≡ a % 2 ^ k
and_low a mask k e =
    let m : mask ≡ 2 ^ k - 1 = omega arith in
    ap (λ n. bit_and a n) m ∙ and_mask a k

-- the numbers of W bits are 2 ^ n blocks of n bits
pub width_split : (W n : ℕ) → n ≤ W → 2 ^ W ≡ 2 ^ n * 2 ^ (W - n)
width_split W n h =
    let e : W ≡ n + (W - n) = omega arith in
    ap (λ m. 2 ^ m) e ∙ pow-add 2 n (W - n)

-- a block ends within the numbers of its width
pub block_end : (W n v : ℕ) → n ≤ W → v < 2 ^ W → v % 2 ^ (W - n) ≡ 0 → v + 2 ^ (W - n) ≤ 2 ^ W
block_end W n v h fits none =
    let d : ℕ = 2 ^ (W - n) in
    let some : 0 < d = pow_pos (W - n) in
    let split : 2 ^ W ≡ 2 ^ n * d = width_split W n h in
    let below : v / d < 2 ^ n = div_below v d (2 ^ n) some (rw (← split) fits) in
    let room : (v / d + 1) * d ≤ 2 ^ n * d = mul-le-mul_right d (omega arith) in
    let first : v / d * d ≡ v = whole v d some none in
    omega arith

-- a block is two of half its size
pub half_split : (W n : ℕ) → n < W → 2 ^ (W - n) ≡ 2 * 2 ^ (W - (n + 1))
half_split W n h =
    let e : W - n ≡ 1 + (W - (n + 1)) = omega arith in
    ap (λ m. 2 ^ m) e ∙ pow-add 2 1 (W - (n + 1))

pub lower_number : (v h : ℕ) → 0 < h → v % (2 * h) ≡ 0 → v / h ≡ 2 * (v / (2 * h))
lower_number v h some none =
    let e : v / (2 * h) * (2 * h) ≡ v = whole v (2 * h) (omega arith) none in
    quotient_is v h (2 * (v / (2 * h))) some (omega arith) (omega arith)

pub upper_number : (v h : ℕ) → 0 < h → v % (2 * h) ≡ 0 → (v + h) / h ≡ 2 * (v / (2 * h)) + 1
upper_number v h some none =
    let e : v / (2 * h) * (2 * h) ≡ v = whole v (2 * h) (omega arith) none in
    quotient_is (v + h) h (2 * (v / (2 * h)) + 1) some (omega arith) (omega arith)

pub lower-mod : (v h : ℕ) → 0 < h → v % (2 * h) ≡ 0 → v % h ≡ 0
lower-mod v h some none =
    let e : v / (2 * h) * (2 * h) ≡ v = whole v (2 * h) (omega arith) none in
    let d : v ≡ 2 * (v / (2 * h)) * h + 0 = omega arith in
    ap (λ n. n % h) d ∙ mod-mul-add (2 * (v / (2 * h))) h 0 some

pub upper-mod : (v h : ℕ) → 0 < h → v % (2 * h) ≡ 0 → (v + h) % h ≡ 0
upper-mod v h some none =
    let e : v / (2 * h) * (2 * h) ≡ v = whole v (2 * h) (omega arith) none in
    let d : v + h ≡ (2 * (v / (2 * h)) + 1) * h + 0 = omega arith in
    ap (λ n. n % h) d ∙ mod-mul-add (2 * (v / (2 * h)) + 1) h 0 some

-- no version has more than 2 ^ 128 numbers
pub width_at_most : (version : Version) → 2 ^ width_of version ≤ 2 ^ 128
width_at_most V4 = lit≤ tt
width_at_most V6 = lit≤ tt

-- the numbers of a block's halves, where h is the size of a half
pub record AreHalves (W n v h : ℕ) : Type 0 where
  pub lower_free : v % 2 ^ (W - (n + 1)) ≡ 0
  pub upper_free : (v + h) % 2 ^ (W - (n + 1)) ≡ 0
  pub upper_fits : v + h < 2 ^ W
  pub lower : v / 2 ^ (W - (n + 1)) ≡ 2 * (v / 2 ^ (W - n))
  pub upper : (v + h) / 2 ^ (W - (n + 1)) ≡ 2 * (v / 2 ^ (W - n)) + 1

pub are_halves : (W n v h : ℕ) → n < W → v < 2 ^ W → v % 2 ^ (W - n) ≡ 0 → h ≡ 2 ^ (W - (n + 1)) → AreHalves W n v h
are_halves W n v h short fits none is =
    let some : 0 < h = rw is (pow_pos (W - (n + 1))) in
    let half : 2 ^ (W - n) ≡ 2 * h = rw is (half_split W n short) in
    let free : v % (2 * h) ≡ 0 = rw (← half) none in
    let end : v + 2 ^ (W - n) ≤ 2 ^ W = block_end W n v (omega arith) fits none in
    record {
      lower_free = rw (← is) (lower-mod v h some free);
      upper_free = rw (← is) (upper-mod v h some free);
      upper_fits = omega arith;
      lower = rw (← is, half) (lower_number v h some free);
      upper = rw (← is, half) (upper_number v h some free);
    }

-- the last number of a block
pub last-fits : (W n v : ℕ) → n ≤ W → v < 2 ^ W → v % 2 ^ (W - n) ≡ 0 → v + (2 ^ (W - n) - 1) < 2 ^ W
last-fits W n v h fits none =
    let some : 0 < 2 ^ (W - n) = pow_pos (W - n) in
    let end : v + 2 ^ (W - n) ≤ 2 ^ W = block_end W n v h fits none in
    omega arith

pub last-above : (v k : ℕ) → v ≤ v + k
last-above v k = omega arith
