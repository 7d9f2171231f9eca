use Rattle.std.proofs.Common.{◌≡◌, ℕ, ◌<◌, ◌≤◌, ◌∙◌, Bool, true, false, Some, None, get_or, eqb, eqb→eq, if◌then◌else◌, ap, refl, arith}
use Rattle.std.proofs.lemmas.Bool.Decides.{nat_tests}
use Rattle.std.specs.Char.{is_ascii_hexdigit}
use Rattle.prefix_keys.specs.Text.{hex_digit_value}
use Rattle.prefix_keys.specs.declared.text.colon.TheConstants.{DIGITS}
use Rattle.prefix_keys.proofs.Places.{below}
use Rattle.prefix_keys.proofs.text.colon.digit_value.Goals as goal

-- the table has the value of each hexadecimal digit, and 99 for each other byte
abbrev is_value : ℕ → Bool
is_value b = eqb (get_or DIGITS b 0) (if is_ascii_hexdigit b then hex_digit_value b else 99)

value : (b : ℕ) → b < 256 → get_or DIGITS b 0 ≡ (if is_ascii_hexdigit b then hex_digit_value b else 99)
value b h = eqb→eq _ _ (below is_value 256 b tt h)

small : (b : ℕ) → is_ascii_hexdigit b ≡ true → hex_digit_value b < 16
small b is = grind (arith, nat_tests)

some : (t : Bool) (v d : ℕ) → d ≡ (if t then v else 99) → d < 16 → Some d ≡ (if t then Some v else None)
some true v d e h = ap (λ n. Some n) e
some false v d e h = absurd (omega (arith, e))

none : (t : Bool) (v d : ℕ) → (t ≡ true → v < 16) → d ≡ (if t then v else 99) → 16 ≤ d → None ≡ (if t then Some v else None)
none true v d low e h = let l : v < 16 = low refl in absurd (omega (arith, e))
none false v d low e h = refl

pub returns-then-digit-lt16-clause-value : goal.returns-then-digit-lt16-clause-value
returns-then-digit-lt16-clause-value c =
    let b = c.args.byte in ap (λ n. Some n) c.from.ensures ∙ some (is_ascii_hexdigit b) (hex_digit_value b) _ (value b (omega arith)) c.if-digit-lt16.true

pub returns-else-digit-lt16-clause-value : goal.returns-else-digit-lt16-clause-value
returns-else-digit-lt16-clause-value c =
    let b = c.args.byte in none (is_ascii_hexdigit b) (hex_digit_value b) _ (small b) (value b (omega arith)) c.if-digit-lt16.false
