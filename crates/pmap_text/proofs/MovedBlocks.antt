-- A block in a text of either version.
use Rattle.std.proofs.Common.{◌≡◌, ℕ, ◌+◌, ◌-◌, ◌*◌, ◌/◌, ◌%◌, ◌^◌, ◌<◌, ◌≤◌, Ok, ap, ◌∙◌, arith}
use Rattle.std.proofs.lemmas.Nat.{mod-mul-add, pow_pos}
use Rattle.pmap_model.proofs.Blocks.{first_of-whole}
use Rattle.prefix_keys.proofs.Quotients.{whole, width_split}
use Rattle.prefix_keys.specs.Block.{block_number, first_of, width_of}
use Rattle.prefix_keys.specs.Conversion.{mapped_prefix}
use Rattle.prefix_keys.specs.declared.version.Version.{Version}
use Rattle.prefix_keys.specs.declared.version.Version.TheVariants.{V4, V6}
use Rattle.pmap_text.specs.Reading.{number_in}

-- the IPv4-mapped block of an IPv4 block in ::ffff:0:0/96 has no host bits
mapped-mod : (value len : ℕ) → len ≤ 32 → value % 2 ^ (32 - len) ≡ 0 → (value + mapped_prefix) % 2 ^ (32 - len) ≡ 0
mapped-mod value len within none =
    let d : ℕ = 2 ^ (32 - len) in
    let some : 0 < d = pow_pos (32 - len) in
    let split : 2 ^ 32 ≡ 2 ^ len * d = width_split 32 len within in
    let first : value / d * d ≡ value = whole value d some none in
    let sum : value + mapped_prefix ≡ (value / d + 65535 * 2 ^ len) * d + 0 = omega arith in
    ap (λ n. n % d) sum ∙ mod-mul-add (value / d + 65535 * 2 ^ len) d 0 some

-- a block begins at its address in a text of either version
pub first_of-placed : (version own : Version) (value len start : ℕ) → len ≤ width_of own → value % 2 ^ (width_of own - len) ≡ 0 → number_in version (own, value) ≡ Ok start
    → first_of (width_of version) (len + (width_of version - width_of own)) (block_number (width_of version) (len + (width_of version - width_of own)) start) ≡ start
first_of-placed V4 V4 value len start within none e =
    let same : value ≡ start = cc in
    first_of-whole 32 (len + 0) start (32 - len) (omega arith) (rw (← same) none)
first_of-placed V4 V6 value len start within none e = absurd (cc)
first_of-placed V6 V6 value len start within none e =
    let same : value ≡ start = cc in
    first_of-whole 128 (len + 0) start (128 - len) (omega arith) (rw (← same) none)
first_of-placed V6 V4 value len start within none e =
    let same : value + mapped_prefix ≡ start = cc in
    first_of-whole 128 (len + 96) start (32 - len) (omega arith) (rw (← same) (mapped-mod value len within none))

-- a block of full length begins at its address
pub first_of-full : (W v : ℕ) → first_of W W (block_number W W v) ≡ v
first_of-full W v = first_of-whole W W v 0 (omega arith) (omega arith)
