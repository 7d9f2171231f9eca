use Rattle.std.proofs.Common.{ℕ, ◌+◌, ◌*◌, fold, ◌≡◌, ◌-◌, ◌^◌, ◌<◌, ◌≤◌, ◌==◌, ◌∙◌, Bool, true, false, List, [], ◌∷◌, Some, None, All, length, map, ap, sym, refl, arith, not, eqb-true, eq-eqb, nat_le, le-leb}
use Rattle.std.specs.List.{list_all, slice_split, range_with_len}
use Rattle.std.specs.Fmt.{decimal, digits, digit_glyph}
use Rattle.std.proofs.lemmas.Bool.{and_from, cond-true, not-true}
use Rattle.std.proofs.lemmas.List.FromFn.{get_or-range_with_len, length-range_with_len}
use Rattle.std.proofs.lemmas.List.Elements.{All-get_or, All-head, All-tail, All-append, All-cons, All-nil}
use Rattle.std.proofs.lemmas.List.Sums.{AllPass-from_list_all, list_all-from_AllPass}
use Rattle.std.proofs.lemmas.List.Splits.{slice_split_none, slice_split_at}
use Rattle.std.proofs.lemmas.List.{length-append}
use Rattle.prefix_keys.specs.Print.{joined_text}
use Rattle.std.specs.Char.{is_ascii_hexdigit}
use Rattle.prefix_keys.specs.Text.{is_digit, hex_digit_value, hex_group, decimal_value, decimal_number}
use Rattle.prefix_keys.proofs.Digits.{length-digits-le, fold-digits, All-digits, digits_some}

-- Printed numbers, and texts of them separated by a separator.

-- the byte is not in the text
abbrev pub Lacks : ℕ → List ℕ → Type 0
Lacks c text = All (λ b. (b == c) ≡ false) text

-- a computed test of the first numbers
tested : (n : ℕ) (test : ℕ → Bool) → list_all test (range_with_len 0 n) ≡ true → (d : ℕ) → d < n → test d ≡ true
tested n test passed d h =
    ap test (sym (get_or-range_with_len 0 n d 0 h ∙ omega arith))
    ∙ All-get_or (λ d. test d ≡ true) (range_with_len 0 n) d 0 (omega (arith, length-range_with_len 0 n))
    (AllPass-from_list_all test (range_with_len 0 n) passed)

-- the sixteen digits
hex_digit : (d : ℕ) → d < 16 → is_ascii_hexdigit (digit_glyph false d) ≡ true
hex_digit = tested 16 (λ d. is_ascii_hexdigit (digit_glyph false d)) refl

hex_value_of : (d : ℕ) → d < 16 → hex_digit_value (digit_glyph false d) ≡ d
hex_value_of d h = eqb-true _ _ (tested 16 (λ d. hex_digit_value (digit_glyph false d) == d) refl d h)

decimal_digit : (d : ℕ) → d < 10 → is_digit (digit_glyph false d) ≡ true
decimal_digit = tested 10 (λ d. is_digit (digit_glyph false d)) refl

decimal_value_of : (d : ℕ) → d < 10 → digit_glyph false d - 48 ≡ d
decimal_value_of d h = eqb-true _ _ (tested 10 (λ d. (digit_glyph false d - 48) == d) refl d h)

-- a group in hexadecimal is read back
pub hex_group-digits : (n : ℕ) → n < 65536 → hex_group (digits 16 false n) ≡ Some n
hex_group-digits n h =
    let text : List ℕ = digits 16 false n in
    let small : n < 2 ^ 63 = omega arith in
    let some : nat_le 1 (length text) ≡ true = le-leb _ _ (omega (arith, digits_some 16 (omega arith) n small)) in
    let short : nat_le (length text) 4 ≡ true = le-leb _ _ (length-digits-le 16 (omega arith) 3 n (omega arith) small) in
    let all : list_all is_ascii_hexdigit text ≡ true =
    list_all-from_AllPass is_ascii_hexdigit text (All-digits 16 (omega arith) (λ b. is_ascii_hexdigit b ≡ true) hex_digit n small) in
    cond-true _ (Some (fold (λ n b. n * 16 + hex_digit_value b) 0 text)) None (and_from _ _ some (and_from _ _ short all))
    ∙ ap (λ m. Some m) (fold-digits 16 (omega arith) hex_digit_value hex_value_of n small)

-- a number of at most three decimal digits is read back
pub short_number-decimal : (limit n : ℕ) → n ≤ limit → n < 1000 → decimal_number 3 limit (decimal n) ≡ Some n
short_number-decimal limit n within h =
    let text : List ℕ = decimal n in
    let small : n < 2 ^ 63 = omega arith in
    let value : decimal_value text ≡ n = fold-digits 10 (omega arith) (λ b. b - 48) decimal_value_of n small in
    let some : nat_le 1 (length text) ≡ true = le-leb _ _ (omega (arith, digits_some 10 (omega arith) n small)) in
    let short : nat_le (length text) 3 ≡ true = le-leb _ _ (length-digits-le 10 (omega arith) 2 n (omega arith) small) in
    let all : list_all is_digit text ≡ true =
    list_all-from_AllPass is_digit text (All-digits 10 (omega arith) (λ b. is_digit b ≡ true) decimal_digit n small) in
    let limited : nat_le (decimal_value text) limit ≡ true = le-leb _ _ (omega (arith, value)) in
    cond-true _ (Some (decimal_value text)) None (and_from _ _ some (and_from _ _ short (and_from _ _ all limited)))
    ∙ ap (λ m. Some m) value

-- no digit is a separator
digit-other : (c : ℕ) → list_all (λ d. not (digit_glyph false d == c)) (range_with_len 0 16) ≡ true → (d : ℕ) → d < 16 → (digit_glyph false d == c) ≡ false
digit-other c passed d h = not-true _ (tested 16 (λ d. not (digit_glyph false d == c)) passed d h)

pub no_colon : (d : ℕ) → d < 16 → (digit_glyph false d == 58) ≡ false
no_colon = digit-other 58 refl

pub no_point : (d : ℕ) → d < 16 → (digit_glyph false d == 46) ≡ false
no_point = digit-other 46 refl

pub no_slash : (d : ℕ) → d < 16 → (digit_glyph false d == 47) ≡ false
no_slash = digit-other 47 refl

-- a byte that isn't a digit is not in a number
pub Lacks-digits : (c : ℕ) → ((d : ℕ) → d < 16 → (digit_glyph false d == c) ≡ false) → (base n : ℕ) → 2 ≤ base → base ≤ 16 → n < 2 ^ 63 → Lacks c (digits base false n)
Lacks-digits c other base n low high small =
    All-digits base low (λ b. (b == c) ≡ false) (λ d h. other d (omega arith)) n small

-- nor in numbers, if it isn't the separator
pub Lacks-joined : (c separator : ℕ) → ((d : ℕ) → d < 16 → (digit_glyph false d == c) ≡ false) → (separator == c) ≡ false
    → (base : ℕ) → 2 ≤ base → base ≤ 16 → (numbers : List ℕ) → All (λ n. n < 65536) numbers → Lacks c (joined_text base separator numbers)
Lacks-joined c separator other apart base low high [] all = All-nil (λ b. (b == c) ≡ false)
Lacks-joined c separator other apart base low high (n ∷ []) all =
    Lacks-digits c other base n low high (omega (arith, All-head (λ n. n < 65536) n [] all))
Lacks-joined c separator other apart base low high (n ∷ m ∷ numbers) all =
    let P : ℕ → Type 0 = λ b. (b == c) ≡ false in
    let rest : List ℕ = joined_text base separator (m ∷ numbers) in
    All-append P (digits base false n) (separator ∷ rest)
    (Lacks-digits c other base n low high (omega (arith, All-head (λ n. n < 65536) n (m ∷ numbers) all)))
    (All-cons P separator rest apart
    (Lacks-joined c separator other apart base low high (m ∷ numbers) (All-tail (λ n. n < 65536) n (m ∷ numbers) all)))

-- the pieces between separators are the numbers
pub split-joined : (base separator : ℕ) → ((d : ℕ) → d < 16 → (digit_glyph false d == separator) ≡ false) → 2 ≤ base → base ≤ 16
    → (n : ℕ) (numbers : List ℕ) → All (λ n. n < 65536) (n ∷ numbers)
    → slice_split (λ b. b == separator) (joined_text base separator (n ∷ numbers)) ≡ map (digits base false) (n ∷ numbers)
split-joined base separator other low high n [] all =
    slice_split_none (λ b. b == separator) (digits base false n)
    (Lacks-digits separator other base n low high (omega (arith, All-head (λ n. n < 65536) n [] all)))
split-joined base separator other low high n (m ∷ numbers) all =
    slice_split_at (λ b. b == separator) (digits base false n) separator (joined_text base separator (m ∷ numbers))
    (Lacks-digits separator other base n low high (omega (arith, All-head (λ n. n < 65536) n (m ∷ numbers) all)))
    (eq-eqb separator separator refl)
    ∙ ap (λ pieces. digits base false n ∷ pieces)
    (split-joined base separator other low high m numbers (All-tail (λ n. n < 65536) n (m ∷ numbers) all))

-- the text of numbers has a first byte, which isn't a separator
pub joined-some : (base separator : ℕ) → 2 ≤ base → (n : ℕ) (numbers : List ℕ) → n < 65536 → 0 < length (joined_text base separator (n ∷ numbers))
joined-some base separator low n [] small = digits_some base low n (omega arith)
joined-some base separator low n (m ∷ numbers) small =
    omega (
      arith,
      digits_some base low n (omega arith),
      length-append (digits base false n) (separator ∷ joined_text base separator (m ∷ numbers)),
    )
