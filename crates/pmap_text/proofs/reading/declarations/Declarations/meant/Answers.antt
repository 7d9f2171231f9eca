use Rattle.std.proofs.Common.{◌≡◌, ℕ, ◌-◌, ◌<◌, ◌≤◌, ◌&&◌, Bool, true, false, not, List, Some, None, get_or, length, arith, cond, le-leb, nat_le, refl, rules, sym}
use Rattle.std.proofs.lemmas.Bool.{and_from}
use Rattle.std.specs.List.{list_all}
use Rattle.std.proofs.lemmas.Bool.Decides.{nat_tests}
use Rattle.std.proofs.lemmas.List.Elements.{All-get_or}
use Rattle.std.proofs.lemmas.List.Sums.{AllPass-from_list_all}
use Rattle.prefix_keys.specs.Text.{decimal_value, is_digit}
use Rattle.prefix_keys.proofs.Bytes.{all-weaker}
use Rattle.pmap_model.specs.Label.{is_blank, is_label, is_label_byte}
use Rattle.pmap_text.specs.Declarations.{label_number}
use Rattle.pmap_text.proofs.reading.declarations.Declarations.meant.Goals as goal

some-true : (b : Bool) (v n : ℕ) → cond b (Some v) None ≡ Some n → b ≡ true
some-true true v n is = refl
some-true false v n is = absurd (let h : None ≡ Some n = is in cc)

digit_label : (b : ℕ) → is_digit b ≡ true → is_label_byte b ≡ true
digit_label b is = grind (arith, nat_tests)

digit_no_blank : (b : ℕ) → is_digit b ≡ true → not (is_blank b) ≡ true
digit_no_blank b is = grind (arith, nat_tests)

-- a number is well formed as a label
number_label : (text : List ℕ) (n : ℕ) → label_number text ≡ Some n → is_label text ≡ true
number_label text n is =
    let all : (nat_le 1 (length text) && (nat_le (length text) 10 && (list_all is_digit text && nat_le (decimal_value text) 2147483647))) ≡ true = some-true _ _ n is in
    let digits : list_all is_digit text ≡ true = grind (arith, all) in
    let digit : (i : ℕ) → i < length text → is_digit (get_or text i 0) ≡ true =
    λ i within. All-get_or (λ b. is_digit b ≡ true) text i 0 within (AllPass-from_list_all is_digit text digits) in
    let long : 1 ≤ length text = grind (arith, nat_tests, all) in
    let short : length text ≤ 255 = grind (arith, nat_tests, all) in
    and_from _ _ (le-leb _ _ long) (and_from _ _ (le-leb _ _ short) (and_from _ _ (all-weaker is_digit is_label_byte digit_label text digits)
    (and_from _ _ (digit_no_blank (get_or text 0 0) (digit 0 (omega arith))) (digit_no_blank (get_or text (length text - 1) 0) (digit (length text - 1) (omega arith))))))

pub returns-clause-label : goal.returns-clause-label
returns-clause-label c =
    let is = number_label c.args.label.now c.in-Some.number (sym c.in-Some.ensures) in (search rules, λ h. is)
