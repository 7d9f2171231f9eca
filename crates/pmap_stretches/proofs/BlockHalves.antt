-- Blocks and their halves. A block of n bits with the number q has the halves 2 * q and 2 * q + 1 of suc n bits.
use Rattle.std.proofs.Common.{◌≡◌, ℕ, suc, ◌+◌, ◌-◌, ◌*◌, ◌/◌, ◌^◌, ◌<◌, ◌≤◌, inl, inr, refl, ◌∙◌, arith}
use Rattle.std.proofs.lemmas.Nat.{pow_pos}
use Rattle.prefix_keys.specs.Block.{first_of, last_of}
use Rattle.pmap_model.proofs.Blocks.{pow-half}

-- the block of n' bits with the number q' is not empty and lies in that of n bits with the number q
pub record LiesIn (W n q n' q' : ℕ) : Type 0 where
  pub from : first_of W n q ≤ first_of W n' q'
  pub to : last_of W n' q' ≤ last_of W n q
  pub some : first_of W n' q' ≤ last_of W n' q'

low_in : (W n q P : ℕ) → 0 < P → 2 ^ (W - suc n) ≡ P → 2 ^ (W - n) ≡ P * 2 → LiesIn W n q (suc n) (2 * q)
low_in W n q P positive half whole =
    record { from = rw (half, whole) (omega arith); to = rw (half, whole) (omega arith); some = rw half (omega arith) }

high_in : (W n q P : ℕ) → 0 < P → 2 ^ (W - suc n) ≡ P → 2 ^ (W - n) ≡ P * 2 → LiesIn W n q (suc n) (2 * q + 1)
high_in W n q P positive half whole =
    record { from = rw (half, whole) (omega arith); to = rw (half, whole) (omega arith); some = rw half (omega arith) }

pub low_lies_in : (W n q : ℕ) → n < W → LiesIn W n q (suc n) (2 * q)
low_lies_in W n q below = low_in W n q (2 ^ (W - suc n)) (pow_pos (W - suc n)) refl (pow-half W n below)

pub high_lies_in : (W n q : ℕ) → n < W → LiesIn W n q (suc n) (2 * q + 1)
high_lies_in W n q below = high_in W n q (2 ^ (W - suc n)) (pow_pos (W - suc n)) refl (pow-half W n below)

-- the ends of the halves, from the ends of the block
pub record HalvesEnds (W n q first middle last : ℕ) : Type 0 where
  pub low_first : first ≡ first_of W (suc n) (2 * q)
  pub low_last : middle ≡ last_of W (suc n) (2 * q)
  pub high_first : middle + 1 ≡ first_of W (suc n) (2 * q + 1)
  pub high_last : last ≡ last_of W (suc n) (2 * q + 1)

ends_at : (W n q first last P : ℕ) → 0 < P → 2 ^ (W - suc n) ≡ P → 2 ^ (W - n) ≡ P * 2
    → first ≡ q * 2 ^ (W - n) → last ≡ (q + 1) * 2 ^ (W - n) - 1 → HalvesEnds W n q first (first + (last - first) / 2) last
ends_at W n q first last P positive half whole f l =
    let f' : first ≡ q * (P * 2) = f ∙ rw whole in
    let l' : last ≡ (q + 1) * (P * 2) - 1 = l ∙ rw whole in
    record {
      low_first = rw half (omega arith);
      low_last = rw half (omega arith);
      high_first = rw half (omega arith);
      high_last = rw half (omega arith);
    }

pub halves_ends : (W n q first last : ℕ) → n < W → first ≡ first_of W n q → last ≡ last_of W n q
    → HalvesEnds W n q first (first + (last - first) / 2) last
halves_ends W n q first last below f l =
    ends_at W n q first last (2 ^ (W - suc n)) (pow_pos (W - suc n)) refl (pow-half W n below) f l

-- a block of more than one address has halves
pub has_halves : (W n q : ℕ) → n ≤ W → first_of W n q < last_of W n q → n < W
has_halves W n q most more =
    elim (Rattle.std.proofs.lemmas.Bool.cases_lt n W) [
      | inl below ↦ below
      | inr above ↦ let none : W - n ≡ 0 = omega arith in absurd (let single = rw none at more in omega arith)
    ]
