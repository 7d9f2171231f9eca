-- Blocks of addresses of W bits: a block, its halves and its addresses.
use Rattle.std.proofs.Common.{◌≡◌, ℕ, zero, suc, ◌+◌, ◌-◌, ◌*◌, ◌/◌, ◌%◌, ◌^◌, ◌<◌, ◌≤◌, ◌⊎◌, sym, ap, ◌∙◌, arith, pow-suc, pow_pos, mul-div_cancel, div-mul-le_self, subst, add-zero, add-suc}
use Rattle.std.proofs.Math.Nat.{div-div-eq-div-mul, lt-div-mul-add, div-eq_of_lt}
use Rattle.std.proofs.lemmas.Nat.{shl_below}
use Rattle.prefix_keys.specs.Block.{block_number, first_of, last_of}
use Rattle.prefix_keys.proofs.Quotients.{quotient_is, whole}

-- a block has twice the addresses of its half
pub pow-half : (W n : ℕ) → n < W → 2 ^ (W - n) ≡ 2 ^ (W - suc n) * 2
pow-half W n below =
    let e : W - n ≡ suc (W - suc n) = omega arith in
    ap (λ (k : ℕ). 2 ^ k) e ∙ pow-suc 2 (W - suc n)

-- the number of a block is that of its half, halved
pub block_number-half : (W n a : ℕ) → n < W → block_number W n a ≡ block_number W (suc n) a / 2
block_number-half W n a below =
    ap (λ (k : ℕ). a / k) (pow-half W n below) ∙ sym (div-div-eq-div-mul a (2 ^ (W - suc n)) 2)

-- the first address of a block is in it
pub block_number-first_of : (W n q : ℕ) → block_number W n (first_of W n q) ≡ q
block_number-first_of W n q = mul-div_cancel q (pow_pos (W - n))

-- the lower half begins where the block does
pub first_of-lower : (W n q : ℕ) → n < W → first_of W (suc n) (2 * q) ≡ first_of W n q
first_of-lower W n q below = let e : 2 ^ (W - n) ≡ 2 ^ (W - suc n) * 2 = pow-half W n below in rw e (omega arith)

-- an address of a block is between its first and its last
pub address-first : (W n q a : ℕ) → block_number W n a ≡ q → first_of W n q ≤ a
address-first W n q a e = subst (λ (k : ℕ). k * 2 ^ (W - n) ≤ a) e (div-mul-le_self a (2 ^ (W - n)))

pub address-last : (W n q a : ℕ) → block_number W n a ≡ q → a ≤ last_of W n q
address-last W n q a e =
    let below : a < a / 2 ^ (W - n) * 2 ^ (W - n) + 2 ^ (W - n) = lt-div-mul-add (pow_pos (W - n)) in
    let below' : a < q * 2 ^ (W - n) + 2 ^ (W - n) = subst (λ (k : ℕ). a < k * 2 ^ (W - n) + 2 ^ (W - n)) e below in
    omega arith

-- and each address between them is in the block
pub address-between : (W n q a : ℕ) → first_of W n q ≤ a → a ≤ last_of W n q → block_number W n a ≡ q
address-between W n q a low high =
    let some : 0 < 2 ^ (W - n) = pow_pos (W - n) in
    quotient_is a (2 ^ (W - n)) q some low (omega (arith, low, high, some))

-- each address is in the block of no bits
pub block_number-zero : (W a : ℕ) → a < 2 ^ W → block_number W 0 a ≡ 0
block_number-zero W a below = let e : W - 0 ≡ W = omega arith in rw e (div-eq_of_lt below)

-- the block of one address begins and ends with it
pub first_of-full : (W q : ℕ) → first_of W W q ≡ q
first_of-full W q = let e : W - W ≡ 0 = omega arith in rw e (omega arith)

pub last_of-full : (W q : ℕ) → last_of W W q ≡ q
last_of-full W q = let e : W - W ≡ 0 = omega arith in rw e (omega arith)

-- the first address of a block is an address
pub first_of-below : (W n q : ℕ) → n ≤ W → q < 2 ^ n → first_of W n q < 2 ^ W
first_of-below W n q le below =
    let e : n + (W - n) ≡ W = omega arith in
    let h : q * 2 ^ (W - n) < 2 ^ (n + (W - n)) = shl_below q n (W - n) below in
    subst (λ (k : ℕ). q * 2 ^ (W - n) < 2 ^ k) e h

-- an address of a block is in one of its halves
pub block_number-halves : (W n q a : ℕ) → n < W → block_number W n a ≡ q →
    (block_number W (suc n) a ≡ 2 * q) ⊎ (block_number W (suc n) a ≡ 2 * q + 1)
block_number-halves W n q a below e =
    let h : block_number W n a ≡ block_number W (suc n) a / 2 = block_number-half W n a below in
    grind arith

-- addresses that share a block share the shorter blocks
block_number-shorter_by : (W n k a b : ℕ) → n + k ≤ W → block_number W (n + k) a ≡ block_number W (n + k) b →
    block_number W n a ≡ block_number W n b
block_number-shorter_by W n zero a b le e = rw add-zero at e
block_number-shorter_by W n (suc k) a b le e =
    let e' : block_number W (suc (n + k)) a ≡ block_number W (suc (n + k)) b = rw add-suc at e in
    let below : n + k < W = omega arith in
    block_number-shorter_by W n k a b (omega arith)
    (block_number-half W (n + k) a below ∙ ap (λ (i : ℕ). i / 2) e' ∙ sym (block_number-half W (n + k) b below))

pub block_number-shorter : (W n j a b : ℕ) → n ≤ j → j ≤ W → block_number W j a ≡ block_number W j b →
    block_number W n a ≡ block_number W n b
block_number-shorter W n j a b le le' e =
    let s : j ≡ n + (j - n) = omega arith in
    block_number-shorter_by W n (j - n) a b (omega arith)
    (subst (λ (i : ℕ). block_number W i a ≡ block_number W i b) s e)

-- a number without host bits is the first of its block
pub first_of-whole : (W n v k : ℕ) → W - n ≡ k → v % 2 ^ k ≡ 0 → first_of W n (block_number W n v) ≡ v
first_of-whole W n v k e h = rw e (whole v (2 ^ k) (pow_pos k) h)
