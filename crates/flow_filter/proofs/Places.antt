-- The numbers of a block's addresses as IPv6 addresses.
use Rattle.std.proofs.Common.{◌≡◌, ℕ, ◌+◌, ◌-◌, ◌*◌, ◌/◌, ◌%◌, ◌^◌, ◌<◌, ◌≤◌, ◌&&◌, ◌==◌, Bool, true, false, nat_le, lit<, refl, ◌∙◌, arith, eq-eqb}
use Rattle.std.proofs.lemmas.Bool.{and_from, and_parts, both_ways, eqb-true, false_from_ne_true, le-leb, leb-true}
use Rattle.std.proofs.lemmas.Nat.{pow_pos}
use Rattle.prefix_keys.specs.Block.{block_number, first_of, last_of, width_of}
use Rattle.prefix_keys.specs.Conversion.{mapped_prefix}
use Rattle.prefix_keys.specs.Text.{AddressOf, BlockOf}
use Rattle.prefix_keys.specs.declared.block.Block.{Block}
use Rattle.prefix_keys.specs.declared.version.Version.{Version}
use Rattle.prefix_keys.specs.declared.version.Version.TheVariants.{V4, V6}
use Rattle.prefix_keys.proofs.Quotients.{above_first, below_end, block_end, quotient_is, whole}
use Rattle.flow_filter.specs.Condition.{covers_converted, in_range}
use Rattle.flow_filter.specs.Filters.{mapped_number, plain_block}

-- the numbers of a block of d numbers, increased by m
interval : (n d value m low high at : ℕ) → 0 < d → value / d * d ≡ value → low ≡ value + m → high ≡ (value / d + 1) * d - 1 + m → at ≡ n + m →
    (nat_le low at && nat_le at high) ≡ (n / d == value / d)
interval n d value m low high at some start is is' is'' = by (n / d == value / d) refl
  where
    by : (b : Bool) → (n / d == value / d) ≡ b → (nat_le low at && nat_le at high) ≡ b
    by true h =
        let same = eqb-true (n / d) (value / d) h in
        let above = above_first n d (value / d) some same in
        let below = below_end n d (value / d) some same in
        and_from (nat_le low at) (nat_le at high) (le-leb low at (omega (arith, is, is'', above, start)))
        (le-leb at high (omega (arith, is', is'', below)))
    by false h =
        false_from_ne_true (nat_le low at && nat_le at high)
        (λ inside.
        let parts = and_parts (nat_le low at) (nat_le at high) inside in
        let above : value ≤ n = omega (arith, leb-true low at parts.0, is, is'') in
        let below : n ≤ (value / d + 1) * d - 1 = omega (arith, leb-true at high parts.1, is', is'') in
        let same = quotient_is n d (value / d) some (omega (arith, above, start)) (omega (arith, below, some)) in
        both_ways (n / d == value / d) h (eq-eqb (n / d) (value / d) same))

-- an IPv4 block has no address outside the IPv4-mapped addresses
outside : (n d value low high : ℕ) → low ≡ value + mapped_prefix → high ≡ (value / d + 1) * d - 1 + mapped_prefix → 0 < d →
    (value / d + 1) * d ≤ 2 ^ 32 → (block_number 128 96 n == block_number 128 96 mapped_prefix) ≡ false → (nat_le low n && nat_le n high) ≡ false
outside n d value low high is is' some end other =
    false_from_ne_true (nat_le low n && nat_le n high)
    (λ inside.
    let parts = and_parts (nat_le low n) (nat_le n high) inside in
    let above : 65535 * 4294967296 ≤ n = omega (arith, leb-true low n parts.0, is) in
    let below : n < (65535 + 1) * 4294967296 = omega (arith, leb-true n high parts.1, is', end, some) in
    let there : n / 4294967296 ≡ 65535 = quotient_is n 4294967296 65535 (lit< tt) above below in
    both_ways (block_number 128 96 n == block_number 128 96 mapped_prefix) other (eq-eqb (n / 4294967296) 65535 there))

-- the number of an IPv4-mapped address is that of the IPv4 address, increased
inside_place : (n : ℕ) → (block_number 128 96 n == block_number 128 96 mapped_prefix) ≡ true → n ≡ n - mapped_prefix + mapped_prefix
inside_place n h =
    let there : n / 4294967296 ≡ 65535 = eqb-true (n / 4294967296) 65535 h in
    let above : 65535 * 4294967296 ≤ n = above_first n 4294967296 65535 (lit< tt) there in
    omega (arith, above)

-- a block's last number ends within its version
block_places : (v : Version) (value len : ℕ) (low high : ℕ) (address : AddressOf) → len ≤ width_of v → value < 2 ^ width_of v →
    value % 2 ^ (width_of v - len) ≡ 0 → low ≡ mapped_number (v, value) →
    high ≡ mapped_number (v, last_of (width_of v) len (block_number (width_of v) len value)) →
    in_range (mapped_number address) (record { low = low; high = high }) ≡ covers_converted (v, value, len) address
block_places V4 value len low high (V4, n) short fits free is is' =
    let d = 2 ^ (32 - len) in
    interval n d value mapped_prefix low high (n + mapped_prefix) (pow_pos (32 - len)) (whole value d (pow_pos (32 - len)) free) is is' refl
block_places V4 value len low high (V6, n) short fits free is is' =
    by (block_number 128 96 n == block_number 128 96 mapped_prefix) refl
  where
    by : (b : Bool) → (block_number 128 96 n == block_number 128 96 mapped_prefix) ≡ b →
        in_range n (record { low = low; high = high }) ≡ covers_converted (V4, value, len) (V6, n)
    by true h =
        let d = 2 ^ (32 - len) in
        rw h (interval (n - mapped_prefix) d value mapped_prefix low high n (pow_pos (32 - len)) (whole value d (pow_pos (32 - len)) free) is is'
        (inside_place n h))
    by false h =
        let d = 2 ^ (32 - len) in
        let start : value / d * d ≡ value = whole value d (pow_pos (32 - len)) free in
        let end : value + d ≤ 2 ^ 32 = block_end 32 len value short fits free in
        rw h (outside n d value low high is is' (pow_pos (32 - len)) (omega (arith, start, end)) h)
block_places V6 value len low high (V4, n) short fits free is is' =
    let d = 2 ^ (128 - len) in
    interval (n + mapped_prefix) d value 0 low high (n + mapped_prefix) (pow_pos (128 - len)) (whole value d (pow_pos (128 - len)) free)
    (omega (arith, is)) (omega (arith, is')) (omega arith)
block_places V6 value len low high (V6, n) short fits free is is' =
    let d = 2 ^ (128 - len) in
    interval n d value 0 low high n (pow_pos (128 - len)) (whole value d (pow_pos (128 - len)) free)
    (omega (arith, is)) (omega (arith, is')) (omega arith)

-- a range from the IPv6 number of a block's first address to that of its last covers the IPv6 numbers of the block's
-- addresses
pub places_covered : (block : Block) (low high : ℕ) (first last : AddressOf) → first.0 ≡ block.version → first.1 ≡ block.value → last.0 ≡ block.version →
    last.1 ≡ last_of (width_of block.version) block.len (block_number (width_of block.version) block.len block.value) →
    low ≡ mapped_number first → high ≡ mapped_number last → (address : AddressOf) →
    in_range (mapped_number address) (record { low = low; high = high }) ≡ covers_converted (plain_block block) address
places_covered block low high first last v n v' n' is is' address =
    block_places block.version block.value block.len low high address block.len_in_range block.in_range block.no_host_bit
    (is ∙ (λ i. mapped_number (v i, n i))) (is' ∙ (λ i. mapped_number (v' i, n' i)))

-- the block of one address
abbrev pub single : AddressOf → BlockOf
single address = (address.0, address.1, width_of address.0)

-- a block of all bits is that of its address
pub whole_block : (v w : Version) (value first len n : ℕ) → w ≡ v → len ≡ n → n ≡ width_of v →
    first ≡ first_of (width_of v) n (block_number (width_of v) n value) → (w, first, len) ≡ single (v, value)
whole_block v w value first len n same is all start =
    let none : width_of v - n ≡ 0 = omega (arith, all) in
    let at : first ≡ value = start ∙ one (width_of v - n) none in
    let long : len ≡ width_of v = is ∙ all in
    λ i. (same i, at i, long i)
  where
    one : (k : ℕ) → k ≡ 0 → value / 2 ^ k * 2 ^ k ≡ value
    one k e = rw e (omega arith)
