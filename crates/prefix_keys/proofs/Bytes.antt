use Rattle.std.proofs.Common.{◌≡◌, ℕ, ◌==◌, ◌∙◌, Bool, true, false, List, All, ap, get_or, sym, inl, inr}
use Rattle.std.specs.List.{list_all, list_any}
use Rattle.std.proofs.lemmas.Bool.{cases_eq, ne_eqb, false≢true, false_from_ne_true, true≢false}
use Rattle.std.proofs.lemmas.List.Elements.{All-from_get_or, All-weaker}
use Rattle.std.proofs.lemmas.List.Folds.{list_any_at, list_any_none}
use Rattle.std.proofs.lemmas.List.Sums.{AllPass-from_list_all, list_all-from_AllPass}

-- Texts in which each byte passes a test.

-- a byte that passes a test differs from each byte that doesn't
pub apart : (p : ℕ → Bool) (c : ℕ) → p c ≡ false → (b : ℕ) → p b ≡ true → (b == c) ≡ false
apart p c fails b passes = elim (cases_eq b c) [
  | inl same ↦ absurd (false≢true (sym fails ∙ ap p (sym same) ∙ passes))
  | inr other ↦ ne_eqb b c other
]

-- each byte passes a weaker test too
pub all-weaker : (p q : ℕ → Bool) → ((b : ℕ) → p b ≡ true → q b ≡ true) → (text : List ℕ) → list_all p text ≡ true → list_all q text ≡ true
all-weaker p q weaker text all =
    list_all-from_AllPass q text (All-weaker (λ b. p b ≡ true) (λ b. q b ≡ true) weaker text (AllPass-from_list_all p text all))

-- no byte passes a test that excludes it
pub none-passes : (p q : ℕ → Bool) → ((b : ℕ) → p b ≡ true → q b ≡ false) → (text : List ℕ) → list_all p text ≡ true → All (λ b. q b ≡ false) text
none-passes p q excludes text all =
    All-weaker (λ b. p b ≡ true) (λ b. q b ≡ false) excludes text (AllPass-from_list_all p text all)

pub lacks : (p : ℕ → Bool) (c : ℕ) → p c ≡ false → (text : List ℕ) → list_all p text ≡ true → list_any (λ b. b == c) text ≡ false
lacks p c fails text all = list_any_none (λ b. b == c) text (none-passes p (λ b. b == c) (apart p c fails) text all)

-- if no byte passes, each fails
pub each-fails : (p : ℕ → Bool) (text : List ℕ) → list_any p text ≡ false → All (λ b. p b ≡ false) text
each-fails p text none =
    All-from_get_or (λ b. p b ≡ false) text 0
    (λ i below. false_from_ne_true (p (get_or text i 0)) (λ yes. true≢false (sym (list_any_at p text i 0 below yes) ∙ none)))
