use Rattle.std.specs.Prelude.{ℕ, ◌*◌, ◌/◌, ◌%◌, ◌^◌, ◌-◌, List, bit_and, bit_or, bit_xor, drop, length}
use Rattle.std.specs.Int.{from_le_bytes, w64}
use Rattle.std.specs.List.{fold}
use Rattle.std.specs.Simd.{first_chunks}
use Rattle.pmap_model.specs.declared.hashing.KeyHasher.{KeyHasher}

-- The hash that a `KeyHasher` computes. No other contract depends on it.

-- the two halves of the 128 bits of a * b, combined by exclusive or
abbrev pub folded : ℕ → ℕ → ℕ
folded a b = bit_xor (bit_and (a * b) (2 ^ 64 - 1)) (a * b / 2 ^ 64)

-- the hasher after `write(bytes)`: the state is mixed with the words of eight bytes, and with the rest after a leading
-- 1
abbrev pub written : KeyHasher → List ℕ → KeyHasher
written hasher bytes =
    let multiplier = hasher.hashing.multiplier in
    let count = length bytes / 8 in
    let mixed = fold (λ state word. folded (bit_xor state (from_le_bytes w64 word)) multiplier) hasher.state
    (first_chunks 8 count bytes) in
    let rest = fold (λ word byte. bit_or (word * 2 ^ 8 % 2 ^ 64) byte) 1 (drop (count * 8) bytes) in
    record hasher { state = folded (bit_xor mixed rest) multiplier }

abbrev pub finished : KeyHasher → ℕ
finished hasher = folded hasher.state hasher.hashing.seed
