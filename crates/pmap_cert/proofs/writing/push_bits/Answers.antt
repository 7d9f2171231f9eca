use Rattle.std.proofs.Common.{◌≡◌, ℕ, zero, suc, ◌+◌, ◌-◌, ◌/◌, ◌%◌, ◌^◌, ◌<◌, ◌==◌, List, ◌∷◌, ◌∙◌, drop, if◌then◌else◌, length, refl, sym, ap, arith}
use Rattle.std.proofs.Math.Nat.{mod-lt}
use Rattle.std.proofs.Math.ListN.{set}
use Rattle.std.proofs.lemmas.Grind.{drop-set_at}
use Rattle.std.proofs.lemmas.List.{length-set}
use Rattle.pmap_cert.specs.CertificateText.{bit_digits}
use Rattle.pmap_cert.specs.Paths.{digit, path_to}
use Rattle.pmap_cert.proofs.Paths.{digits-left}
use Rattle.pmap_cert.proofs.writing.push_bits.Goals as goal

digit-code : (digit : ℕ) → digit < 2 → 48 + digit ≡ (if digit == 1 then 49 else 48)
digit-code zero small = refl
digit-code (suc zero) small = refl
digit-code (suc (suc digit)) small = absurd (omega (arith, small))

-- the digits with one more before them
digit-before : (value rest place : ℕ) (digits : List ℕ) → length digits ≡ 128 → place < 128 → rest ≡ value / 2 ^ place
    → drop (128 - place) digits ≡ bit_digits (path_to value place)
    → drop (128 - (place + 1)) (set digits (127 - place) (48 + rest % 2)) ≡ bit_digits (path_to value (place + 1))
digit-before value rest place digits len few is done =
    let next : place + 1 ≡ suc place = omega arith in
    let start : 127 - place + 1 ≡ 128 - place = omega (arith, few) in
    let code = ap (λ (n : ℕ). 48 + n % 2) is ∙ digit-code (digit value place) (mod-lt (value / 2 ^ place) (omega arith)) in
    drop-set_at digits (127 - place) (128 - (place + 1)) (48 + rest % 2) (omega (arith, few)) (omega (arith, len))
    ∙ (λ i. code i ∷ (ap (λ (n : ℕ). drop n digits) start ∙ done) i) ∙ ap (λ (n : ℕ). bit_digits (path_to value n)) (sym next)

pub loop-place-preserved : goal.loop-place-preserved
loop-place-preserved g c =
    let place = c.loop-place.place in
    let value = c.args.path.now.value in
    let loop = c.loop-place.invariant in
    record {
      len = length-set c.loop-place.digits (127 - place) (48 + c.loop-place.rest % 2) ∙ loop.len;
      rest = digits-left value c.loop-place.rest place loop.rest;
      done = digit-before value c.loop-place.rest place c.loop-place.digits loop.len (omega (arith, c.loop-place-test.true, c.args.path.now.few)) loop.rest loop.done;
    }
