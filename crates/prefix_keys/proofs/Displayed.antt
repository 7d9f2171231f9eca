-- Printed texts are those of std's addresses.
use Rattle.std.proofs.Common.{ℕ, ◌≡◌, ◌+◌, ◌*◌, ◌/◌, ◌%◌, ◌^◌, ◌<◌, ◌≤◌, ◌++◌, ◌∙◌, All, false, inl, inr, List, [], ◌∷◌, ap, arith, drop, le-leb, refl, sym, take}
use Rattle.std.specs.Prelude.{if◌then◌else◌, nat_le}
use Rattle.std.specs.Fmt.{digit_glyph, digits}
use Rattle.std.specs.Int.{to_be_bytes, w128}
use Rattle.std.specs.Net.Addr.{IsIpv4OfBits, IsIpv6OfBits, segments_of}
use Rattle.std.specs.Net.Text.{compressed_text, groups_text, hex, hex_groups_text, longest_zero_run, zero_run}
use Rattle.std.proofs.Math.Nat.{div-div-eq-div-mul, div-one}
use Rattle.std.proofs.lemmas.Bool.{cases_lt, lt-leb}
use Rattle.std.proofs.lemmas.List.{append-nil, append_assoc}
use Rattle.std.proofs.lemmas.List.Elements.{All-drop, All-head, All-tail, All-take}
use Rattle.prefix_keys.specs.Displayed.{AddressIsDisplayed}
use Rattle.prefix_keys.specs.Print.{address_groups, address_groups_text, longer_run, longest_run, shortened_text}
use Rattle.prefix_keys.proofs.Digits.{digits_last, digits_next}
use Rattle.prefix_keys.proofs.Groups.{parts-below}

abbrev last : ℕ → ℕ
last n = digit_glyph false (n % 16)

-- a number of one to four digits in hexadecimal
one_digit : (n : ℕ) → n < 16 → digits 16 false n ≡ last n ∷ []
one_digit n h = digits_last 16 (omega arith) n h

two_digits : (n : ℕ) → 16 ≤ n → n < 256 → digits 16 false n ≡ last (n / 16) ∷ last n ∷ []
two_digits n low high =
    digits_next 16 (omega arith) n low (omega (arith, high)) ∙ ap (λ t. t ++ last n ∷ []) (one_digit (n / 16) (omega (arith, high)))

three_digits : (n : ℕ) → 256 ≤ n → n < 4096 → digits 16 false n ≡ last (n / 16 / 16) ∷ last (n / 16) ∷ last n ∷ []
three_digits n low high =
    digits_next 16 (omega arith) n (omega (arith, low)) (omega (arith, high))
    ∙ ap (λ t. t ++ last n ∷ []) (two_digits (n / 16) (omega (arith, low)) (omega (arith, high)))

four_digits : (n : ℕ) → 4096 ≤ n → n < 65536 → digits 16 false n ≡ last (n / 16 / 16 / 16) ∷ last (n / 16 / 16) ∷ last (n / 16) ∷ last n ∷ []
four_digits n low high =
    digits_next 16 (omega arith) n (omega (arith, low)) (omega (arith, high))
    ∙ ap (λ t. t ++ last n ∷ []) (three_digits (n / 16) (omega (arith, low)) (omega (arith, high)))

second : (n : ℕ) → n / 16 / 16 ≡ n / 256
second n = omega arith

first : (n : ℕ) → n < 65536 → n / 16 / 16 / 16 % 16 ≡ n / 4096
first n h = omega arith

-- a group in hexadecimal
hex-is : (n : ℕ) → n < 2 ^ 16 → hex n ≡ digits 16 false n
unfolding hex
hex-is n fits =
    elim (cases_lt n 0x1000) [
      | inr four ↦ rw (le-leb 0x1000 n four, four_digits n four fits, first n fits, second n) refl
      | inl few ↦ elim (cases_lt n 0x100) [
        | inr three ↦ rw (lt-leb 0x1000 n few, le-leb 0x100 n three, three_digits n three few, second n) refl
        | inl fewer ↦ elim (cases_lt n 0x10) [
          | inr two ↦ rw (lt-leb 0x1000 n few, lt-leb 0x100 n fewer, le-leb 0x10 n two, two_digits n two fewer) refl
          | inl one ↦ rw (lt-leb 0x1000 n few, lt-leb 0x100 n fewer, lt-leb 0x10 n one, one_digit n one) refl
        ]
      ]
    ]

-- groups with colons between them
groups_same : (groups : List ℕ) → All (λ group. group < 2 ^ 16) groups → groups_text groups ≡ address_groups_text groups
groups_same [] fit = refl
groups_same (x ∷ []) fit = append-nil (hex x) ∙ hex-is x (All-head (λ group. group < 2 ^ 16) x [] fit)
groups_same (x ∷ y ∷ groups) fit =
    λ i. hex-is x (All-head (λ group. group < 2 ^ 16) x (y ∷ groups) fit) i
    ++ 58 ∷ groups_same (y ∷ groups) (All-tail (λ group. group < 2 ^ 16) x (y ∷ groups) fit) i

-- the run of zeros that `::` replaces
runs_same : (groups : List ℕ) → longest_zero_run groups ≡ longest_run groups
runs_same [] = refl
runs_same (group ∷ groups) = ap (longer_run (zero_run (group ∷ groups))) (runs_same groups)

shortened_same : (groups : List ℕ) (run : ℕ × ℕ) → All (λ group. group < 2 ^ 16) groups → compressed_text groups run ≡ shortened_text groups run
shortened_same groups (start, len) fit =
    let P : ℕ → Type 0 = λ group. group < 2 ^ 16 in
    let front = take start groups in
    let back = drop (start + len) groups in
    (λ i. if nat_le 2 len then groups_same front (All-take P start groups fit) i ++ (58 ∷ 58 ∷ []) ++ groups_same back (All-drop P (start + len) groups fit) i
    else groups_same groups fit i)
    ∙ ap (λ t. if nat_le 2 len then t else address_groups_text groups)
    (append_assoc (address_groups_text front) (58 ∷ 58 ∷ []) (address_groups_text back))

-- two bytes of a number are a group of it
group_at : (m : ℕ) → m / 256 % 256 * 256 + m % 256 ≡ m % 65536
group_at m = omega arith

group_of : (n p : ℕ) → n / (p * 256) % 256 * 256 + n / p % 256 ≡ n / p % 65536
group_of n p = ap (λ m. m % 256 * 256 + n / p % 256) (sym (div-div-eq-div-mul n p 256)) ∙ group_at (n / p)

segments_same : (number : ℕ) → segments_of (to_be_bytes w128 number) ≡ address_groups number
segments_same number =
    λ i. group_of number (256 ^ 14) i ∷ group_of number (256 ^ 12) i ∷ group_of number (256 ^ 10) i ∷ group_of number (256 ^ 8) i
    ∷ group_of number (256 ^ 6) i ∷ group_of number (256 ^ 4) i ∷ group_of number (256 ^ 2) i
    ∷ (group_at number ∙ ap (λ m. m % 65536) (sym (div-one number))) i ∷ []

-- four texts with points between them
dotted : (a b c d : List ℕ) → a ++ (46 ∷ []) ++ b ++ (46 ∷ []) ++ c ++ (46 ∷ []) ++ d ≡ a ++ (46 ∷ (b ++ (46 ∷ (c ++ (46 ∷ d)))))
dotted a b c d =
    let point : List ℕ = 46 ∷ [] in
    append_assoc (a ++ point ++ b ++ point ++ c) point d
    ∙ append_assoc (a ++ point ++ b ++ point) c (point ++ d)
    ∙ append_assoc (a ++ point ++ b) point (c ++ (point ++ d))
    ∙ append_assoc (a ++ point) b (point ++ (c ++ (point ++ d)))
    ∙ append_assoc a point (b ++ (point ++ (c ++ (point ++ d))))

pub address_is_displayed : AddressIsDisplayed
unfolding hex_groups_text IsIpv4OfBits IsIpv6OfBits
address_is_displayed = record {
  v4 = λ number address is. rw (is, div-one number) (sym (dotted _ _ _ _));
  v6 = λ number address is.
      let groups = address_groups number in
      sym (shortened_same groups (longest_run groups) (parts-below 16 (7 ∷ 6 ∷ 5 ∷ 4 ∷ 3 ∷ 2 ∷ 1 ∷ 0 ∷ []) number (omega arith)))
      ∙ ap (compressed_text groups) (sym (runs_same groups))
      ∙ ap hex_groups_text (sym (is ∙ segments_same number));
}
