-- Bytes that are written before an offset of a buffer, from the last of them on.
use Rattle.std.proofs.Common.{ℕ, zero, suc, ◌≡◌, ◌+◌, ◌-◌, ◌*◌, ◌/◌, ◌%◌, ◌<◌, ◌≤◌, ◌∙◌, Bool, true, false, ◌&&◌, T, eqb, List, [], ◌∷◌, ◌++◌, length, drop, get_or, set, ap, arith, length-set, inl, inr, eq-zero-or-pos, eqb→eq}
use lib.Ieee.Fits.{and_l, and_r}
use Rattle.std.specs.Fmt.{decimal, digit_glyph, digits}
use Rattle.std.proofs.lemmas.Fmt.{decimal_digit, decimal_step}
use Rattle.std.proofs.lemmas.List.{drop-set, drop-set-lt}
use Rattle.prefix_keys.specs.declared.print.digits.TheConstants.{OCTETS, PAIRS}
use Rattle.prefix_keys.proofs.Digits.{digits_last, digits_next}

-- a test that each number below a limit passes, as computing shows
abbrev pub all_below : (ℕ → Bool) → ℕ → Bool
all_below test zero = true
all_below test (suc n) = test n && all_below test n

pub below : (test : ℕ → Bool) (n m : ℕ) → T (all_below test n) → m < n → T (test m)
below test zero m t h = absurd (omega arith)
below test (suc n) m t h =
    elim (eq-zero-or-pos (n - m)) [
      | inl z ↦ let e : m ≡ n = omega arith in rw e (and_l _ (all_below test n) t)
      | inr g ↦ below test n m (and_r _ (all_below test n) t) (omega arith)
    ]

-- a byte that is written just before an offset
pub put : (xs : List ℕ) (i j b : ℕ) → i + 1 ≡ j → j ≤ length xs → drop i (set xs i b) ≡ b ∷ drop j xs
put xs i j b e h = drop-set xs i b (omega arith) ∙ ap (λ k. b ∷ drop k xs) e

module _ (buf : List ℕ) (end : ℕ) (within : end ≤ length buf) (a b c d : ℕ) where
  abbrev one : List ℕ
  one = set buf (end - 1) a

  abbrev two : List ℕ
  two = set one (end - 2) b

  abbrev three : List ℕ
  three = set two (end - 3) c

  abbrev four : List ℕ
  four = set three (end - 4) d

  put_one : 1 ≤ end → drop (end - 1) one ≡ a ∷ drop end buf
  put_one h = put buf (end - 1) end a (omega arith) within

  put_two : 2 ≤ end → drop (end - 2) two ≡ b ∷ a ∷ drop end buf
  put_two h =
      put one (end - 2) (end - 1) b (omega arith) (omega (arith, length-set buf (end - 1) a))
      ∙ ap (λ text. b ∷ text) (put_one (omega arith))

  put_three : 3 ≤ end → drop (end - 3) three ≡ c ∷ b ∷ a ∷ drop end buf
  put_three h =
      put two (end - 3) (end - 2) c (omega arith) (omega (arith, length-set buf (end - 1) a, length-set one (end - 2) b))
      ∙ ap (λ text. c ∷ text) (put_two (omega arith))

  put_four : 4 ≤ end → drop (end - 4) four ≡ d ∷ c ∷ b ∷ a ∷ drop end buf
  put_four h =
      put three (end - 4) (end - 3) d (omega arith)
      (omega (arith, length-set buf (end - 1) a, length-set one (end - 2) b, length-set two (end - 3) c))
      ∙ ap (λ text. d ∷ text) (put_three (omega arith))

  -- the bytes after those that are written earlier in the buffer
  last_of_three : 3 ≤ end → drop (end - 1) three ≡ a ∷ drop end buf
  last_of_three h =
      drop-set-lt (end - 1) two (end - 3) c (omega arith) ∙ drop-set-lt (end - 1) one (end - 2) b (omega arith)
      ∙ put_one (omega arith)

  last_two_of_three : 3 ≤ end → drop (end - 2) three ≡ b ∷ a ∷ drop end buf
  last_two_of_three h = drop-set-lt (end - 2) two (end - 3) c (omega arith) ∙ put_two (omega arith)

  pub last_of_four : 4 ≤ end → drop (end - 1) four ≡ a ∷ drop end buf
  last_of_four h = drop-set-lt (end - 1) three (end - 4) d (omega arith) ∙ last_of_three (omega arith)

  pub last_two_of_four : 4 ≤ end → drop (end - 2) four ≡ b ∷ a ∷ drop end buf
  last_two_of_four h = drop-set-lt (end - 2) three (end - 4) d (omega arith) ∙ last_two_of_three (omega arith)

  pub last_three_of_four : 4 ≤ end → drop (end - 3) four ≡ c ∷ b ∷ a ∷ drop end buf
  last_three_of_four h = drop-set-lt (end - 3) three (end - 4) d (omega arith) ∙ put_three (omega arith)

  pub all_of_four : 4 ≤ end → drop (end - 4) four ≡ d ∷ c ∷ b ∷ a ∷ drop end buf
  all_of_four h = put_four h

-- numbers of one, two and three decimal digits
pub one_digit : (n : ℕ) → n < 10 → decimal n ≡ (48 + n % 10) ∷ []
one_digit n h = let e : n ≡ n % 10 = omega arith in decimal_digit n h ∙ ap (λ m. (48 + m) ∷ []) e

pub two_digits : (n : ℕ) → 10 ≤ n → n < 100 → decimal n ≡ (48 + n / 10 % 10) ∷ (48 + n % 10) ∷ []
two_digits n low high =
    decimal_step n low (omega arith) ∙ ap (λ (text : List ℕ). text ++ (48 + n % 10) ∷ []) (one_digit (n / 10) (omega arith))

pub three_digits : (n : ℕ) → 100 ≤ n → n < 1000 → decimal n ≡ (48 + n / 100) ∷ (48 + n / 10 % 10) ∷ (48 + n % 10) ∷ []
three_digits n low high =
    let front : n / 10 / 10 % 10 ≡ n / 100 = omega arith in
    decimal_step n (omega arith) (omega arith)
    ∙ ap (λ (text : List ℕ). text ++ (48 + n % 10) ∷ []) (two_digits (n / 10) (omega arith) (omega arith))
    ∙ ap (λ m. (48 + m) ∷ (48 + n / 10 % 10) ∷ (48 + n % 10) ∷ []) front

-- the digits of a number below 256, in the table of octets
abbrev is_octet : ℕ → Bool
is_octet n =
    eqb (get_or OCTETS (n * 4 + 1) 0) (48 + n / 100)
    && (eqb (get_or OCTETS (n * 4 + 2) 0) (48 + n / 10 % 10) && eqb (get_or OCTETS (n * 4 + 3) 0) (48 + n % 10))

pub octet_digits : (n : ℕ) → n < 256
    → (get_or OCTETS (n * 4 + 1) 0 ≡ 48 + n / 100) × (get_or OCTETS (n * 4 + 2) 0 ≡ 48 + n / 10 % 10)
    × (get_or OCTETS (n * 4 + 3) 0 ≡ 48 + n % 10)
octet_digits n h =
    let all = below is_octet 256 n tt h in
    let others = and_r _ _ all in
    (eqb→eq _ _ (and_l _ _ all), eqb→eq _ _ (and_l _ _ others), eqb→eq _ _ (and_r _ _ others))

-- numbers of one to four hexadecimal digits
abbrev pub hex : ℕ → ℕ
hex = digit_glyph false

-- the digits of a number below 256, in the table of pairs
abbrev is_pair : ℕ → Bool
is_pair p = eqb (get_or PAIRS (p * 2) 0) (hex (p / 16)) && eqb (get_or PAIRS (p * 2 + 1) 0) (hex (p % 16))

pair : (p : ℕ) → p < 256 → (get_or PAIRS (p * 2) 0 ≡ hex (p / 16)) × (get_or PAIRS (p * 2 + 1) 0 ≡ hex (p % 16))
pair p h = let both = below is_pair 256 p tt h in (eqb→eq _ _ (and_l _ _ both), eqb→eq _ _ (and_r _ _ both))

pub last_pair : (n : ℕ) → (get_or PAIRS (n % 256 * 2) 0 ≡ hex (n / 16 % 16)) × (get_or PAIRS (n % 256 * 2 + 1) 0 ≡ hex (n % 16))
last_pair n =
    let both = pair (n % 256) (omega arith) in
    let tens : n % 256 / 16 ≡ n / 16 % 16 = omega arith in
    let ones : n % 256 % 16 ≡ n % 16 = omega arith in
    (both.0 ∙ ap hex tens, both.1 ∙ ap hex ones)

pub first_pair : (n : ℕ) → n < 65536 → (get_or PAIRS (n / 256 * 2) 0 ≡ hex (n / 4096)) × (get_or PAIRS (n / 256 * 2 + 1) 0 ≡ hex (n / 256 % 16))
first_pair n h =
    let both = pair (n / 256) (omega arith) in
    let front : n / 256 / 16 ≡ n / 4096 = omega arith in
    (both.0 ∙ ap hex front, both.1)

pub one_hex : (n : ℕ) → n < 16 → digits 16 false n ≡ hex (n % 16) ∷ []
one_hex n h = digits_last 16 (omega arith) n h

more_hex : (n : ℕ) (text : List ℕ) → 16 ≤ n → n < 65536 → digits 16 false (n / 16) ≡ text → digits 16 false n ≡ text ++ hex (n % 16) ∷ []
more_hex n text low high front =
    digits_next 16 (omega arith) n low (omega arith) ∙ ap (λ (t : List ℕ). t ++ hex (n % 16) ∷ []) front

pub two_hex : (n : ℕ) → 16 ≤ n → n < 256 → digits 16 false n ≡ hex (n / 16 % 16) ∷ hex (n % 16) ∷ []
two_hex n low high = more_hex n _ low (omega arith) (one_hex (n / 16) (omega arith))

pub three_hex : (n : ℕ) → 256 ≤ n → n < 4096 → digits 16 false n ≡ hex (n / 256 % 16) ∷ hex (n / 16 % 16) ∷ hex (n % 16) ∷ []
three_hex n low high =
    let front : n / 16 / 16 ≡ n / 256 = omega arith in
    more_hex n _ (omega arith) (omega arith) (two_hex (n / 16) (omega arith) (omega arith))
    ∙ ap (λ m. hex (m % 16) ∷ hex (n / 16 % 16) ∷ hex (n % 16) ∷ []) front

pub four_hex : (n : ℕ) → 4096 ≤ n → n < 65536
    → digits 16 false n ≡ hex (n / 4096) ∷ hex (n / 256 % 16) ∷ hex (n / 16 % 16) ∷ hex (n % 16) ∷ []
four_hex n low high =
    let front : n / 16 / 256 % 16 ≡ n / 4096 = omega arith in
    let second : n / 16 / 16 ≡ n / 256 = omega arith in
    more_hex n _ (omega arith) high (three_hex (n / 16) (omega arith) (omega arith))
    ∙ ap (λ m. hex m ∷ hex (n / 16 / 16 % 16) ∷ hex (n / 16 % 16) ∷ hex (n % 16) ∷ []) front
    ∙ ap (λ m. hex (n / 4096) ∷ hex (m % 16) ∷ hex (n / 16 % 16) ∷ hex (n % 16) ∷ []) second
