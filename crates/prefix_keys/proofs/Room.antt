use Rattle.std.proofs.Common.{ℕ, ◌^◌, ◌<◌, ◌≤◌, arith, lit<}
use Rattle.std.proofs.Math.Nat.{pow-le-pow_right}

-- The maximum length of the digits of a number.

longer : (b i j : ℕ) → 0 < b → i ≤ j → b ^ i ≤ b ^ j
longer b i j some few = pow-le-pow_right some few

pub digits_room : (i : ℕ) → i < 20 → 10 ^ i ≤ 10000000000000000000
digits_room i few = longer 10 i 19 (lit< tt) (omega (arith, few))

-- up to four hexadecimal digits form a group
pub group_room : (n k : ℕ) → n < 16 ^ k → k ≤ 4 → n < 65536
group_room n k h few = let within : 16 ^ k ≤ 16 ^ 4 = pow-le-pow_right {n = 16} (omega arith) {i = k} {j = 4} few in omega arith
