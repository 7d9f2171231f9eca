use Rattle.std.proofs.Common.{ℕ, zero, suc, ◌≡◌, ◌+◌, ◌*◌, ◌/◌, ◌%◌, ◌^◌, ◌<◌, ◌≤◌, ◌∙◌, List, [], ◌∷◌, All, fold, arith, ap, sym}
use Rattle.std.proofs.Math.Nat.{mod-lt, div-one, div-eq_of_lt, div-div-eq-div-mul, div-add-mod'}
use Rattle.prefix_keys.specs.Print.{parts_at, address_groups}
use Rattle.prefix_keys.specs.Text.{groups_number}
use Rattle.std.proofs.lemmas.Nat.{pow-add}
use Rattle.prefix_keys.specs.Block.{width_of, Version, V4, V6}

-- The groups of an address.

-- each part fits its number of bits
pub parts-below : (bits : ℕ) (places : List ℕ) (number : ℕ) → 0 < 2 ^ bits → All (λ part. part < 2 ^ bits) (parts_at bits places number)
parts-below bits [] number some k d h = absurd (omega arith)
parts-below bits (place ∷ places) number some zero d h = mod-lt (number / 2 ^ (bits * place)) some
parts-below bits (place ∷ places) number some (suc k) d h = parts-below bits places number some k d (omega arith)

pub groups-below : (number : ℕ) → All (λ group. group < 65536) (address_groups number)
groups-below number = parts-below 16 (7 ∷ 6 ∷ 5 ∷ 4 ∷ 3 ∷ 2 ∷ 1 ∷ 0 ∷ []) number (omega arith)

-- a length fits three digits
pub width-le : (version : Version) → width_of version ≤ 128
width-le V4 = omega arith
width-le V6 = omega arith

-- the four bytes of an IPv4 address, the highest first
abbrev pub address_bytes : ℕ → List ℕ
address_bytes = parts_at 8 (3 ∷ 2 ∷ 1 ∷ 0 ∷ [])

pub bytes-below : (number : ℕ) → All (λ byte. byte < 256) (address_bytes number)
bytes-below number = parts-below 8 (3 ∷ 2 ∷ 1 ∷ 0 ∷ []) number (omega arith)

-- the bit offsets below, the highest first
places_below : ℕ → List ℕ
places_below zero = []
places_below (suc k) = k ∷ places_below k

-- the parts above an offset, followed by the part at it, are the parts from there on
part-more : (bits k number : ℕ) →
    number / 2 ^ (bits * suc k) * 2 ^ bits + number / 2 ^ (bits * k) % 2 ^ bits ≡ number / 2 ^ (bits * k)
part-more bits k number =
    let e : bits * suc k ≡ bits * k + bits = grind arith in
    ap (λ p. number / p * 2 ^ bits + number / 2 ^ (bits * k) % 2 ^ bits) (ap (λ n. 2 ^ n) e ∙ pow-add 2 (bits * k) bits)
    ∙ ap (λ q. q * 2 ^ bits + number / 2 ^ (bits * k) % 2 ^ bits) (sym (div-div-eq-div-mul number (2 ^ (bits * k)) (2 ^ bits)))
    ∙ div-add-mod' (number / 2 ^ (bits * k)) (2 ^ bits)

-- a number is the number of its parts
parts_number : (bits k number : ℕ) →
    fold (λ n part. n * 2 ^ bits + part) (number / 2 ^ (bits * k)) (parts_at bits (places_below k) number) ≡ number
unfolding places_below
parts_number bits zero number =
    let e : bits * 0 ≡ 0 = omega arith in
    ap (λ n. number / 2 ^ n) e ∙ div-one number
parts_number bits (suc k) number =
    ap (λ n. fold (λ n part. n * 2 ^ bits + part) n (parts_at bits (places_below k) number)) (part-more bits k number)
    ∙ parts_number bits k number

pub groups-number : (number : ℕ) → number < 2 ^ 128 → groups_number (address_groups number) ≡ number
unfolding places_below
groups-number number h =
    ap (λ n. fold (λ n part. n * 65536 + part) n (address_groups number)) (sym (div-eq_of_lt {n = number} {m = 2 ^ 128} h))
    ∙ parts_number 16 8 number

pub bytes-number : (number : ℕ) → number < 2 ^ 32 → fold (λ n byte. n * 256 + byte) 0 (address_bytes number) ≡ number
unfolding places_below
bytes-number number h =
    ap (λ n. fold (λ n part. n * 256 + part) n (address_bytes number)) (sym (div-eq_of_lt {n = number} {m = 2 ^ 32} h))
    ∙ parts_number 8 4 number
