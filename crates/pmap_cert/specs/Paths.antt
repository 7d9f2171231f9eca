use Rattle.std.specs.Prelude.{◌≡◌, ℕ, zero, suc, ◌+◌, ◌/◌, ◌%◌, ◌^◌, ◌==◌, Bool, List, [], ◌∷◌, length}
use Rattle.prefix_keys.specs.Block.{block_number, width_of}
use Rattle.prefix_keys.specs.declared.block.Block.{Block}
use Rattle.pmap_cert.specs.CertificateModel.{chosen_half}

-- the binary digit of a number at a place, from 0 at the end, and the bits of its last places
abbrev pub digit : ℕ → ℕ → ℕ
digit value place = (value / 2 ^ place) % 2

abbrev pub path_to : ℕ → ℕ → List Bool
path_to value zero = []
path_to value (suc bits) = (digit value bits == 1) ∷ path_to value bits

-- the number of the block that the bits lead to from the block with the number q
abbrev pub path_number : List Bool → ℕ → ℕ
path_number [] q = q
path_number (bit ∷ bits) q = path_number bits (chosen_half bit q)

-- the bits lead from a block to its end
pub record LeadsTo (b end : Block) (bits : List Bool) : Type 0 where
  pub version : end.version ≡ b.version
  pub len : end.len ≡ b.len + length bits
  pub number : block_number (width_of end.version) end.len end.value
      ≡ path_number bits (block_number (width_of b.version) b.len b.value)
