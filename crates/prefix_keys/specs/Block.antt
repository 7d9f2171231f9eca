use Rattle.std.specs.Prelude.{ℕ, ◌+◌, ◌-◌, ◌*◌, ◌/◌, ◌^◌}
pub use Rattle.prefix_keys.specs.declared.version.Version.{Version}
pub use Rattle.prefix_keys.specs.declared.version.Version.TheVariants.{V4, V6}

-- the number of bits of an address
abbrev pub width_of : Version → ℕ
width_of V4 = 32
width_of V6 = 128

-- Blocks of addresses of W bits. The addresses that share their first n bits form a block of n bits. The number of the
-- block is the quotient of these addresses by 2 ^ (W - n).

-- the number of the block of n bits that the address is in
abbrev pub block_number : ℕ → ℕ → ℕ → ℕ
block_number W n a = a / 2 ^ (W - n)

-- the first and the last address of the block of n bits with the number q
abbrev pub first_of : ℕ → ℕ → ℕ → ℕ
first_of W n q = q * 2 ^ (W - n)

abbrev pub last_of : ℕ → ℕ → ℕ → ℕ
last_of W n q = (q + 1) * 2 ^ (W - n) - 1
