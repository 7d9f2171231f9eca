use Rattle.std.proofs.Common.{ℕ, zero, suc, ◌≡◌, ◌<◌, ◌==◌, ◌&&◌, ◌∙◌, Bool, true, false, List, [], ◌∷◌, Option, Some, None, length, get_or, take, drop, ap, sym, refl, arith, option_map, if◌then◌else◌}
use Rattle.std.proofs.lemmas.Bool.{false≢true}
use Rattle.prefix_keys.specs.Text.{around_gap, around_address, gap_address, text_groups, colon_address}

-- The first `::` of a text.

-- whether there is a `::` at that index
abbrev pub is_gap : List ℕ → ℕ → Bool
is_gap text k = (get_or text k 0 == 58) && (get_or text (suc k) 0 == 58)

pub is_gap-true : (text : List ℕ) (n m : ℕ) → m ≡ suc n → get_or text n 0 ≡ 58 → get_or text m 0 ≡ 58 → is_gap text n ≡ true
is_gap-true text n m e p q =
    ap (λ x. (x == 58) && (get_or text (suc n) 0 == 58)) p
    ∙ ap (λ x. x == 58) (ap (λ k. get_or text k 0) (sym e) ∙ q)

and_false : (b : Bool) → (b && false) ≡ false
and_false true = refl
and_false false = refl

-- a byte put before the front side
abbrev pub onto_front : ℕ → Option (List ℕ × List ℕ) → Option (List ℕ × List ℕ)
onto_front b sides = option_map (λ sides. (b ∷ sides.0, sides.1)) sides

pub first_gap : (text : List ℕ) (n : ℕ) → ((k : ℕ) → k < n → is_gap text k ≡ false) → is_gap text n ≡ true →
    around_gap text ≡ Some (take n text, drop (suc (suc n)) text)
first_gap [] n before here = absurd (false≢true here)
first_gap (b ∷ []) n before here = absurd (false≢true (sym (and_false (get_or (b ∷ []) n 0 == 58)) ∙ here))
first_gap (b ∷ d ∷ text) zero before here =
    ap (λ t. if t then Some ([], text) else onto_front b (around_gap (d ∷ text))) here
first_gap (b ∷ d ∷ text) (suc n) before here =
    ap (λ t. if t then Some ([], text) else onto_front b (around_gap (d ∷ text))) (before 0 (omega arith))
    ∙ ap (onto_front b) (first_gap (d ∷ text) n (λ k below. before (suc k) (omega arith)) here)

pub no_gap : (text : List ℕ) → ((k : ℕ) → suc k < length text → is_gap text k ≡ false) → around_gap text ≡ None
no_gap [] none = refl
no_gap (b ∷ []) none = refl
no_gap (b ∷ d ∷ text) none =
    ap (λ t. if t then Some ([], text) else onto_front b (around_gap (d ∷ text))) (none 0 (omega arith))
    ∙ ap (onto_front b) (no_gap (d ∷ text) (λ k below. none (suc k) (omega arith)))

-- the address of a text with a `::`
pub address-around : (text front back : List ℕ) → Some (front, back) ≡ around_gap text →
    colon_address text ≡ gap_address (text_groups false front) (text_groups true back)
address-around text front back e = ap (around_address text) (sym e)
