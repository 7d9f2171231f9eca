use Rattle.std.proofs.lemmas.List.Elements.{All-push, All-nil}
use Rattle.std.proofs.lemmas.List.Sums.{fold-append}
use Rattle.std.proofs.Common.{All, fold, subst, ℕ, zero, suc, ◌≡◌, ◌+◌, ◌*◌, ◌/◌, ◌%◌, ◌^◌, ◌<◌, ◌≤◌, ◌∙◌, false, cond, List, [], ◌∷◌, ◌++◌, length, ap, sym, refl, inl, inr, arith, eq-eqb}
use Rattle.std.specs.Fmt.{digit_glyph, digits_onto, digits}
use Rattle.std.proofs.lemmas.Bool.{cases_eq, cases_lt, ne_eqb}
use Rattle.std.proofs.lemmas.List.{append_assoc, length_push}
use Rattle.std.proofs.Math.Nat.{div-eq_of_lt, mod-eq_of_lt, div-lt_iff_lt-mul, one-mul, pow-zero, pow-suc, mod-lt, div-add-mod'}

-- The digits of a number in a base: those of its quotient, followed by the last one.

module _ (base : ℕ) where
  abbrev last : ℕ → ℕ
  last n = digit_glyph false (n % base)

  abbrev spell : ℕ → ℕ → List ℕ → List ℕ
  spell k n acc = digits_onto k base false n acc

  spell_last : (k n : ℕ) (acc : List ℕ) → n / base ≡ 0 → spell (suc k) n acc ≡ last n ∷ acc
  spell_last k n acc h = ap (λ t. cond t (last n ∷ acc) (spell k (n / base) (last n ∷ acc))) (eq-eqb (n / base) 0 h)

  spell_next : (k n : ℕ) (acc : List ℕ) → (n / base ≡ 0 → ⊥) → spell (suc k) n acc ≡ spell k (n / base) (last n ∷ acc)
  spell_next k n acc h = ap (λ t. cond t (last n ∷ acc) (spell k (n / base) (last n ∷ acc))) (ne_eqb (n / base) 0 h)

  spell-append : (k n : ℕ) (acc : List ℕ) → spell k n acc ≡ spell k n [] ++ acc
  spell-append zero n acc = refl
  spell-append (suc k) n acc = elim (cases_eq (n / base) 0) [
    | inl e ↦ spell_last k n acc e ∙ ap (λ x. x ++ acc) (sym (spell_last k n [] e))
    | inr e ↦
        spell_next k n acc e ∙ spell-append k (n / base) (last n ∷ acc)
        ∙ sym (append_assoc (spell k (n / base) []) (last n ∷ []) acc)
        ∙ ap (λ x. x ++ acc) (sym (spell_next k n [] e ∙ spell-append k (n / base) (last n ∷ [])))
  ]

  module _ (low : 2 ≤ base) where
    -- a quotient is at most half
    half : (n m : ℕ) → n < m * 2 → n / base < m
    half n m h =
        let some : 0 < base = omega arith in
        (div-lt_iff_lt-mul some).1 (grind arith)

    -- the limit does not matter once it is large enough
    spell_enough : (j k n : ℕ) (acc : List ℕ) → n < 2 ^ suc j → n < 2 ^ suc k → spell (suc j) n acc ≡ spell (suc k) n acc
    spell_enough zero k n acc p q =
        let e : n / base ≡ 0 = div-eq_of_lt {n = n} {m = base} (omega arith) in
        spell_last zero n acc e ∙ sym (spell_last k n acc e)
    spell_enough (suc j) zero n acc p q =
        let e : n / base ≡ 0 = div-eq_of_lt {n = n} {m = base} (omega arith) in
        spell_last (suc j) n acc e ∙ sym (spell_last zero n acc e)
    spell_enough (suc j) (suc k) n acc p q = elim (cases_eq (n / base) 0) [
      | inl e ↦ spell_last (suc j) n acc e ∙ sym (spell_last (suc k) n acc e)
      | inr e ↦
          spell_next (suc j) n acc e
          ∙ spell_enough j k (n / base) (last n ∷ acc) (half n (2 ^ suc j) (omega arith)) (half n (2 ^ suc k) (omega arith))
          ∙ sym (spell_next (suc k) n acc e)
    ]

    -- a number below the base has one digit
    pub digits_last : (n : ℕ) → n < base → digits base false n ≡ digit_glyph false (n % base) ∷ []
    unfolding digits
    digits_last n h = spell_last 63 n [] (div-eq_of_lt h)

    -- the last digit follows those of the quotient
    pub digits_next : (n : ℕ) → base ≤ n → n < 2 ^ 63 → digits base false n ≡ digits base false (n / base) ++ digit_glyph false (n % base) ∷ []
    unfolding digits
    digits_next n h small =
        let some : 0 < base = omega arith in
        let more : n / base ≡ 0 → ⊥ = λ e. omega (arith, (div-lt_iff_lt-mul {k = base} {x = n} {y = 1} some).0 (omega arith)) in
        spell_next 63 n [] more
        ∙ spell_enough 62 63 (n / base) (last n ∷ []) (half n (2 ^ 63) (omega arith)) (half n (2 ^ 64) (omega arith))
        ∙ spell-append 64 (n / base) (last n ∷ [])

    -- the maximum number of digits of a number below a power of the base
    pub length-digits-le : (k n : ℕ) → n < base ^ suc k → n < 2 ^ 63 → length (digits base false n) ≤ suc k
    length-digits-le zero n h small =
        let one : base ^ 1 ≡ base = pow-suc base 0 ∙ ap (λ x. x * base) (pow-zero base) ∙ one-mul base in
        rw (digits_last n (omega arith)) (omega arith)
    length-digits-le (suc k) n h small = elim (cases_lt n base) [
      | inl l ↦ rw (digits_last n l) (omega arith)
      | inr l ↦
          let some : 0 < base = omega arith in
          rw (digits_next n l small)
          (omega (
            arith,
            length_push (digits base false (n / base)) (digit_glyph false (n % base)),
            length-digits-le k (n / base) ((div-lt_iff_lt-mul some).1 (omega (arith, pow-suc base (suc k)))) (half n (2 ^ 63) (omega arith)),
          ))
    ]

    -- induction on the digits: one digit, or one more after those of the quotient
    pub digits_by_steps : (P : ℕ → List ℕ → Type 0)
        → ((n : ℕ) → n < base → P n (digit_glyph false n ∷ []))
        → ((n : ℕ) (text : List ℕ) → base ≤ n → P (n / base) text → P n (text ++ digit_glyph false (n % base) ∷ []))
        → (k n : ℕ) → n < 2 ^ suc k → n < 2 ^ 63 → P n (digits base false n)
    digits_by_steps P one more zero n h small =
        subst (P n) (sym (digits_last n (omega arith) ∙ ap (λ d. digit_glyph false d ∷ []) (mod-eq_of_lt (omega arith))))
        (one n (omega arith))
    digits_by_steps P one more (suc k) n h small = elim (cases_lt n base) [
      | inl l ↦ subst (P n) (sym (digits_last n l ∙ ap (λ d. digit_glyph false d ∷ []) (mod-eq_of_lt l))) (one n l)
      | inr l ↦
          subst (P n) (sym (digits_next n l small))
          (more n (digits base false (n / base)) l
          (digits_by_steps P one more k (n / base) (half n (2 ^ suc k) (omega arith)) (half n (2 ^ 63) (omega arith))))
    ]

    -- the number that the digits represent, from the value of each of them
    pub fold-digits : (value : ℕ → ℕ) → ((d : ℕ) → d < base → value (digit_glyph false d) ≡ d)
        → (n : ℕ) → n < 2 ^ 63 → fold (λ m b. m * base + value b) 0 (digits base false n) ≡ n
    fold-digits value known n small =
        let step : ℕ → ℕ → ℕ = λ m b. m * base + value b in
        let some : 0 < base = omega arith in
        digits_by_steps (λ n text. fold (λ m b. m * base + value b) 0 text ≡ n)
        (λ n h. zero-mul_plus base (value (digit_glyph false n)) ∙ known n h)
        (λ n text l h.
        fold-append step 0 text (digit_glyph false (n % base) ∷ [])
        ∙ ap (λ m. m * base + value (digit_glyph false (n % base))) h
        ∙ ap (λ d. n / base * base + d) (known (n % base) (mod-lt n some))
        ∙ div-add-mod' n base)
        62 n small small
      where
        zero-mul_plus : (b m : ℕ) → 0 * b + m ≡ m
        zero-mul_plus b m = omega arith

    -- what is true of each digit of the base is true of each byte
    pub All-digits : (P : ℕ → Type 0) → ((d : ℕ) → d < base → P (digit_glyph false d))
        → (n : ℕ) → n < 2 ^ 63 → All P (digits base false n)
    All-digits P known n small =
        let some : 0 < base = omega arith in
        digits_by_steps (λ n text. All P text)
        (λ n h. All-push P [] (digit_glyph false n) (All-nil P) (known n h))
        (λ n text l h. All-push P text (digit_glyph false (n % base)) h (known (n % base) (mod-lt n some)))
        62 n small small

    pub digits_some : (n : ℕ) → n < 2 ^ 63 → 0 < length (digits base false n)
    digits_some n small =
        digits_by_steps (λ n text. 0 < length text) (λ n h. omega arith)
        (λ n text l h. omega (arith, length_push text (digit_glyph false (n % base)))) 62 n small small
