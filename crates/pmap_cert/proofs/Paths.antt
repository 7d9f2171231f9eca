-- The bits of chains as the code stores them, and where they lead.
use Rattle.std.proofs.Common.{◌≡◌, ℕ, zero, suc, ◌+◌, ◌-◌, ◌*◌, ◌/◌, ◌%◌, ◌^◌, ◌<◌, ◌≤◌, ◌==◌, ◌∙◌, Bool, true, false, [], ◌∷◌, ◌++◌, length, refl, sym, ap, subst, arith}
use mir.Val.{bool_byte}
use Rattle.std.proofs.Math.Nat.{div-div-eq-div-mul, mod-lt, mul-le-mul_right, mul-mod_left, pow-suc, pow-succ'}
use Rattle.std.proofs.Math.Pow.{mod-mod-pow}
use Rattle.std.proofs.lemmas.Nat.{div-mul-add, mod-pow-add, pow-add, pow_pos, shl-shr}
use Rattle.prefix_keys.specs.Block.{width_of}
use Rattle.prefix_keys.specs.declared.block.Block.{Block}
use Rattle.prefix_keys.proofs.Groups.{width-le}
use Rattle.prefix_keys.proofs.Quotients.{block_end, whole}
use Rattle.pmap_cert.specs.CertificateModel.{chosen_half}
use Rattle.pmap_cert.specs.Paths.{digit, path_number, path_to}

pub path-length : (value bits : ℕ) → length (path_to value bits) ≡ bits
path-length value zero = refl
path-length value (suc bits) = let rest = path-length value bits in omega arith

-- what is left of a number without its last digits, with one digit less
pub digits-left : (value rest place : ℕ) → rest ≡ value / 2 ^ place → rest / 2 ≡ value / 2 ^ (place + 1)
digits-left value rest place is =
    let next : place + 1 ≡ suc place = omega arith in
    ap (λ (n : ℕ). n / 2) is ∙ div-div-eq-div-mul value (2 ^ place) 2
    ∙ ap (λ (n : ℕ). value / n) (sym (ap (λ (n : ℕ). 2 ^ n) next ∙ pow-suc 2 place))

-- the digits of a number that one more digit follows
digit-moved : (value bit place : ℕ) → bit < 2 → place < 127 → digit (value * 2 % 2 ^ 128 + bit) (suc place) ≡ digit value place
digit-moved value bit place small few =
    let all : ℕ = value * 2 % 2 ^ 128 + bit in
    let half : all / 2 ≡ value % 2 ^ 127 = omega arith in
    let split : 127 ≡ (127 - place) + place = omega (arith, few) in
    let more : 127 - place ≡ (126 - place) + 1 = omega (arith, few) in
    let cut : value % 2 ^ 127 / 2 ^ place ≡ value / 2 ^ place % 2 ^ (127 - place) =
    ap (λ (k : ℕ). value % 2 ^ k / 2 ^ place) split ∙ ap (λ (n : ℕ). n / 2 ^ place) (mod-pow-add value (127 - place) place)
    ∙ div-mul-add (value / 2 ^ place % 2 ^ (127 - place)) (2 ^ place) (value % 2 ^ place) (mod-lt value (pow_pos place)) in
    ap (λ (d : ℕ). all / d % 2) (pow-succ' 2 place) ∙ ap (λ (n : ℕ). n % 2) (sym (div-div-eq-div-mul all 2 (2 ^ place)) ∙ ap (λ (n : ℕ). n / 2 ^ place) half ∙ cut)
    ∙ ap (λ (k : ℕ). value / 2 ^ place % 2 ^ k % 2) more ∙ mod-mod-pow (value / 2 ^ place) (126 - place) 1

pub path-more : (value count : ℕ) (bit : Bool) → count < 128 → path_to (value * 2 % 2 ^ 128 + bool_byte bit) (suc count) ≡ path_to value count ++ bit ∷ []
path-more value zero true few = let last : (value * 2 % 2 ^ 128 + 1) / 2 ^ 0 % 2 ≡ 1 = omega arith in ap (λ (d : ℕ). (d == 1) ∷ []) last
path-more value zero false few = let last : (value * 2 % 2 ^ 128 + 0) / 2 ^ 0 % 2 ≡ 0 = omega arith in ap (λ (d : ℕ). (d == 1) ∷ []) last
path-more value (suc count) bit few =
    λ i. (digit-moved value (bool_byte bit) count (small bit) (omega (arith, few)) i == 1) ∷ path-more value count bit (omega (arith, few)) i
  where
    small : (bit : Bool) → bool_byte bit < 2
    small true = omega arith
    small false = omega arith

half-number : (digit q : ℕ) → digit < 2 → chosen_half (digit == 1) q ≡ 2 * q + digit
half-number zero q small = omega arith
half-number (suc zero) q small = refl
half-number (suc (suc digit)) q small = absurd (omega (arith, small))

-- the number of the block at a path's end
pub path-number : (value count q : ℕ) → path_number (path_to value count) q ≡ q * 2 ^ count + value % 2 ^ count
path-number value zero q = omega arith
path-number value (suc count) q =
    let next : 1 + count ≡ suc count = omega arith in
    path-number value count (chosen_half (digit value count == 1) q)
    ∙ ap (λ (half : ℕ). half * 2 ^ count + value % 2 ^ count) (half-number (digit value count) q (omega arith))
    ∙ joined (digit value count) (2 ^ count) (2 ^ suc count) (value % 2 ^ count) (value % 2 ^ suc count) (pow-suc 2 count)
    (ap (λ (n : ℕ). value % 2 ^ n) (sym next) ∙ mod-pow-add value 1 count)
  where
    joined : (d size double low all : ℕ) → double ≡ size * 2 → all ≡ d * size + low → (2 * q + d) * size + low ≡ q * double + all
    joined d size double low all twice digits = rw (twice, digits) (omega arith)

-- the address begins a block at the end of a path of this many bits, which are the last digits of the number
pub record IsEnd (W n value number bits end : ℕ) : Type 0 where
  pub fits : end < 2 ^ W
  pub free : end % 2 ^ (W - (n + bits)) ≡ 0
  pub number_is : end / 2 ^ (W - (n + bits)) ≡ value / 2 ^ (W - n) * 2 ^ bits + number % 2 ^ bits

-- The block at a path's end, whose bits are first moved to the front of 128 and then to their places.
module _ (W n value number bits : ℕ) (wide : W ≤ 128) (deep : n + bits ≤ W) where
  abbrev low : ℕ
  low = number % 2 ^ bits

  moved : number * 2 ^ (128 - bits) % 2 ^ 128 / 2 ^ (128 - W + n) ≡ low * 2 ^ (W - (n + bits))
  moved =
      let all : bits + (128 - bits) ≡ 128 = omega arith in
      let up : number * 2 ^ (128 - bits) % 2 ^ 128 ≡ low * 2 ^ (128 - bits) =
      ap (λ (k : ℕ). number * 2 ^ (128 - bits) % 2 ^ k) (sym all) ∙ mod-pow-add (number * 2 ^ (128 - bits)) bits (128 - bits)
      ∙ (λ i. (shl-shr number (128 - bits) i % 2 ^ bits) * 2 ^ (128 - bits) + mul-mod_left number (2 ^ (128 - bits)) i) ∙ omega arith in
      let split : 128 - bits ≡ W - (n + bits) + (128 - W + n) = omega arith in
      let size : 2 ^ (128 - bits) ≡ 2 ^ (W - (n + bits)) * 2 ^ (128 - W + n) = ap (λ (k : ℕ). 2 ^ k) split ∙ pow-add 2 (W - (n + bits)) (128 - W + n) in
      ap (λ (m : ℕ). m / 2 ^ (128 - W + n)) (up ∙ ap (λ (m : ℕ). low * m) size ∙ omega arith) ∙ shl-shr (low * 2 ^ (W - (n + bits))) (128 - W + n)

  is-end : value < 2 ^ W → value % 2 ^ (W - n) ≡ 0 → IsEnd W n value number bits (value + low * 2 ^ (W - (n + bits)))
  is-end fits free =
      let q : ℕ = value / 2 ^ (W - n) in
      let size : ℕ = 2 ^ (W - (n + bits)) in
      let some : 0 < size = pow_pos (W - (n + bits)) in
      let split : W - n ≡ bits + (W - (n + bits)) = omega arith in
      let all : 2 ^ (W - n) ≡ 2 ^ bits * size = ap (λ (k : ℕ). 2 ^ k) split ∙ pow-add 2 bits (W - (n + bits)) in
      let sum : value + low * size ≡ (q * 2 ^ bits + low) * size = joined value q (2 ^ (W - n)) (2 ^ bits) size low (sym (whole value (2 ^ (W - n)) (pow_pos (W - n)) free)) all in
      let small : low + 1 ≤ 2 ^ bits = let less = mod-lt number (pow_pos bits) in omega arith in
      let most = mul-le-mul_right size small in
      let end = block_end W n value (omega arith) fits free in
      record {
        fits = omega (arith, most, end, all, some);
        free = ap (λ (m : ℕ). m % size) sum ∙ mul-mod_left (q * 2 ^ bits + low) size;
        number_is = ap (λ (m : ℕ). m / size) sum ∙ shl-shr (q * 2 ^ bits + low) (W - (n + bits));
      }
    where
      joined : (value q all times size low : ℕ) → value ≡ q * all → all ≡ times * size → value + low * size ≡ (q * times + low) * size
      joined value q all times size low is product = is_product (ap (λ (m : ℕ). q * m) product)
        where
          is_product : q * all ≡ q * (times * size) → value + low * size ≡ (q * times + low) * size
          is_product same = omega (arith, is, same)

-- .. as the code finds it
pub at-end : (block : Block) (number bits width : ℕ) → block.len + bits ≤ width_of block.version → width ≡ width_of block.version
    → IsEnd (width_of block.version) block.len block.value number bits (block.value + number * 2 ^ (128 - bits) % 2 ^ 128 / 2 ^ (128 - width + block.len))
at-end block number bits width deep is =
    let wide = width-le block.version in
    let offset = ap (λ (w : ℕ). number * 2 ^ (128 - bits) % 2 ^ 128 / 2 ^ (128 - w + block.len)) is ∙ moved (width_of block.version) block.len block.value number bits wide deep in
    subst (λ (n : ℕ). IsEnd (width_of block.version) block.len block.value number bits (block.value + n)) (sym offset)
    (is-end (width_of block.version) block.len block.value number bits wide deep block.in_range block.no_host_bit)
