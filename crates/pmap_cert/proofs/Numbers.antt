-- The decimal texts of numbers, and ascending numbers.
use Rattle.std.proofs.Common.{◌≡◌, ◌≢◌, ℕ, ◌+◌, ◌-◌, ◌*◌, ◌^◌, ◌<◌, ◌≤◌, ◌==◌, ◌∙◌, ◌⊎◌, inl, inr, true, false, List, [], ◌∷◌, map, fold, refl, sym, ap, arith, get_or, length, rules}
use Rattle.std.specs.Fmt.{decimal, digit_glyph}
use Rattle.std.specs.List.{AllByRecursion, list_all}
use Rattle.std.proofs.lemmas.Bool.{and_from, and_parts, le-leb, leb-true, lt-ltb, ltb-true, ne_eqb}
use Rattle.std.proofs.lemmas.Fmt.{decimal-digits_value, digits_decimal}
use Rattle.std.proofs.lemmas.Str.Parse.{IsNumeralModel, numerals_by_fold}
use Rattle.prefix_keys.proofs.Digits.{All-digits, fold-digits}
use Rattle.prefix_keys.proofs.Printed.{Lacks}
use Rattle.prefix_keys.specs.Text.{decimal_value, is_digit}
use Rattle.pmap_cert.specs.CertificateText.{IsAscending}
use Rattle.pmap_cert.specs.FormatReading.{is_ascending}

-- a digit is not a byte below the digits, and its value is its number
digit-other : (c d : ℕ) → c < 48 → d < 10 → (digit_glyph false d == c) ≡ false
digit-other c d low h = rw (lt-ltb d 10 h) (ne_eqb (48 + d) c (λ e. omega arith))

digit-value : (d : ℕ) → d < 10 → digit_glyph false d - 48 ≡ d
digit-value d h = rw (lt-ltb d 10 h) (omega arith)

pub Lacks-decimal : (c n : ℕ) → c < 48 → n < 2 ^ 63 → Lacks c (decimal n)
Lacks-decimal c n low small = All-digits 10 (omega arith) (λ b. (b == c) ≡ false) (λ d h. digit-other c d low h) n small

pub decimal_value-decimal : (n : ℕ) → n < 2 ^ 63 → decimal_value (decimal n) ≡ n
decimal_value-decimal n small = fold-digits 10 (omega arith) (λ b. b - 48) digit-value n small

-- the numbers of the decimal texts of ascending numbers are these, and no text has a byte below the digits
pub values-decimals : (bound low : ℕ) (ns : List ℕ) → bound ≤ 2 ^ 63 → IsAscending bound low ns → map decimal_value (map decimal ns) ≡ ns
values-decimals bound low [] small ascending = refl
values-decimals bound low (n ∷ ns) small ascending =
    λ i. decimal_value-decimal n (omega (arith, ascending.1, small)) i ∷ values-decimals bound (n + 1) ns small ascending.2 i

pub Lacks-decimals : (c bound low : ℕ) (ns : List ℕ) → c < 48 → bound ≤ 2 ^ 63 → IsAscending bound low ns → AllByRecursion (Lacks c) (map decimal ns)
Lacks-decimals c bound low [] less small ascending = tt
Lacks-decimals c bound low (n ∷ ns) less small ascending =
    (Lacks-decimal c n less (omega (arith, ascending.1)), Lacks-decimals c bound (n + 1) ns less small ascending.2)

-- numbers ascend exactly if they pass the test
pub ascending-test : (bound low : ℕ) (ns : List ℕ) → IsAscending bound low ns → is_ascending bound low ns ≡ true
ascending-test bound low [] h = refl
ascending-test bound low (n ∷ ns) h =
    and_from _ _ (le-leb low n h.0) (and_from _ _ (lt-ltb n bound h.1) (ascending-test bound (n + 1) ns h.2))

pub ascending-passed : (bound low : ℕ) (ns : List ℕ) → is_ascending bound low ns ≡ true → IsAscending bound low ns
ascending-passed bound low [] h = tt
ascending-passed bound low (n ∷ ns) h =
    let least = and_parts _ _ h in
    let less = and_parts _ _ least.1 in
    (leb-true low n least.0, ltb-true n bound less.0, ascending-passed bound (n + 1) ns less.1)

-- digits with their value are a model of decimal texts
own : IsNumeralModel (λ ds. list_all is_digit ds ≡ true) decimal_value
own = numerals_by_fold _ (search rules) (λ n ds. fold (λ m b. m * 10 + (b - 48)) n ds) (search rules)

pub decimal-digits : (n : ℕ) → n < 2 ^ 32 → list_all is_digit (decimal n) ≡ true
decimal-digits n small = digits_decimal own n (omega (arith, small))

-- digits are the decimal text of their value if there is only one or the first is not 0
pub decimal-word : (word : List ℕ) (n : ℕ) → n ≡ decimal_value word → list_all is_digit word ≡ true → 0 < length word → n < 2 ^ 32
    → (length word ≡ 1) ⊎ (get_or word 0 0 ≢ 48) → word ≡ decimal n
decimal-word word n value digits some small plain =
    sym (decimal-digits_value own word digits some (λ zero. elim plain [ inl one ↦ one | inr other ↦ absurd (other zero) ]) (omega (arith, value, small)))
    ∙ ap decimal (sym value)
