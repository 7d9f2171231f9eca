use Rattle.std.proofs.Common.{ℕ, ◌≤◌, ◌<◌, ◌^◌, length, arith}
use Rattle.std.specs.Fmt.{decimal}
use Rattle.std.proofs.lemmas.Fmt.{length-decimal-le}
use Rattle.pmap_cert.proofs.opened.write_number.Goals as goal

-- a number of 32 bits has at most ten digits
few : (n : ℕ) → n < 2 ^ 32 → length (decimal n) ≤ 10
few n small = length-decimal-le 10 n (omega arith) (omega (arith, small)) (omega (arith, small))

pub write_digits-start-requires : goal.write_digits-start-requires
write_digits-start-requires c = let most = few c.from.result (omega (arith, c.from.ensures, c.ranges.number.fits)) in (omega (arith, most, c.requires.some), c.requires.within)

pub write_byte-requires-clause-some : goal.write_byte-requires-clause-some
write_byte-requires-clause-some c =
    let most = few c.from.result (omega (arith, c.from.ensures, c.ranges.number.fits)) in
    omega (arith, most, c.requires.some, c.write_digits-start.ensures.start)

pub returns-clause-few : goal.returns-clause-few
returns-clause-few c =
    let most = few c.from.result (omega (arith, c.from.ensures, c.ranges.number.fits)) in
    omega (arith, most, c.write_digits-start.ensures.start, c.write_byte.ensures.start)
