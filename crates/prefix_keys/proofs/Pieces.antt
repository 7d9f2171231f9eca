use Rattle.std.proofs.Common.{ℕ, zero, suc, ◌≡◌, ◌≢◌, ◌⊎◌, ◌+◌, ◌<◌, ◌≤◌, ◌==◌, ◌∙◌, Bool, false, List, [], ◌∷◌, Option, Some, None, length, get_or, map, option_and_then, option_map, ap, sym, refl, arith, inl, inr}
use Rattle.std.specs.List.{slice_split, before_first, after_first, position_or_len, list_all}
use Rattle.std.proofs.lemmas.List.{length-map}
use Rattle.std.proofs.Math.ListN.{drop_of_length-le}
use Rattle.std.proofs.lemmas.Bool.{cases_lt, eqb-true}
use Rattle.std.proofs.lemmas.List.Sums.{passes_at_first, fails_before_first}
use Rattle.std.proofs.lemmas.List.Splits.{slice_split_first, slice_split_none, length-slice_split}
use Rattle.std.proofs.lemmas.List.Elements.{All-from_get_or}
use Rattle.std.proofs.lemmas.List.Folds.{list_all_at}
use Rattle.std.proofs.lemmas.Grind.{common_steps}
use Rattle.prefix_keys.specs.Text.{all_some, decimal_number, dotted_address, four_bytes, is_digit}

-- The pieces of a text between points.

abbrev pub is_point : ℕ → Bool
is_point b = b == 46

-- the text before the first point and after it
abbrev pub front : List ℕ → List ℕ
front text = before_first is_point text

abbrev pub back : List ℕ → List ℕ
back text = after_first is_point text

-- a text with a byte that isn't a digit is not a number
pub short_number-undigit : (limit : ℕ) (text : List ℕ) → list_all is_digit text ≡ false → decimal_number 3 limit text ≡ None
short_number-undigit limit text h = grind (arith, common_steps)

-- a text with a point is not a number
pub short_number-pointed : (limit : ℕ) (text : List ℕ) → position_or_len is_point text < length text → decimal_number 3 limit text ≡ None
short_number-pointed limit text h =
    let n : ℕ = position_or_len is_point text in
    let point : get_or text n 0 ≡ 46 = eqb-true _ _ (passes_at_first is_point text 0 h) in
    let undigit : is_digit (get_or text n 0) ≡ false = ap is_digit point in
    short_number-undigit limit text (list_all_at is_digit text n 0 h undigit)

-- a text is one piece, or the piece before its first point and the pieces after it
pub split-whole : (p : ℕ → Bool) (text : List ℕ) → length text ≤ position_or_len p text → slice_split p text ≡ text ∷ []
split-whole p text h =
    slice_split_none p text
    (All-from_get_or (λ x. p x ≡ false) text 0 (λ i below. fails_before_first p text i 0 (omega arith)))

pub back-whole : (text : List ℕ) → length text ≤ position_or_len is_point text → back text ≡ []
back-whole text h = drop_of_length-le text {i = position_or_len is_point text + 1} (omega arith)

pub split-pointed : (text : List ℕ) → position_or_len is_point text < length text →
    slice_split is_point text ≡ front text ∷ slice_split is_point (back text)
split-pointed text h = slice_split_first is_point text 0 h

-- the result of a function of numbers, if all of them exist
abbrev pub of_all : (List ℕ → Option ℕ) → List (Option ℕ) → Option ℕ
of_all f numbers = option_and_then f (all_some numbers)

of_more : (f : List ℕ → Option ℕ) (x : ℕ) (numbers : List (Option ℕ)) → of_all f (Some x ∷ numbers) ≡ of_all (λ xs. f (x ∷ xs)) numbers
of_more f x numbers = by (all_some numbers)
  where
    by : (o : Option (List ℕ)) → option_and_then f (option_map (λ xs. x ∷ xs) o) ≡ option_and_then (λ xs. f (x ∷ xs)) o
    by None = refl
    by (Some xs) = refl

-- there is no result if lists of this length have no result
none_of : (f : List ℕ → Option ℕ) (numbers : List (Option ℕ)) → ((xs : List ℕ) → length xs ≡ length numbers → f xs ≡ None) → of_all f numbers ≡ None
none_of f [] none = none [] refl
none_of f (None ∷ numbers) none = refl
none_of f (Some x ∷ numbers) none = of_more f x numbers ∙ none_of (λ xs. f (x ∷ xs)) numbers (λ xs e. none (x ∷ xs) (ap suc e))

abbrev byte_number : List ℕ → Option ℕ
byte_number text = decimal_number 3 255 text

-- the numbers of the pieces before the first n points, and that of the text after them
abbrev cut_numbers : ℕ → List ℕ → List (Option ℕ)
cut_numbers zero text = byte_number text ∷ []
cut_numbers (suc n) text = byte_number (front text) ∷ cut_numbers n (back text)

-- the empty text is not a number
empty_none : (f : List ℕ → Option ℕ) (o : Option ℕ) (n : ℕ) → of_all f (o ∷ cut_numbers n []) ≡ None
empty_none f None n = refl
empty_none f (Some x) zero = refl
empty_none f (Some x) (suc n) = refl

-- the function needs n numbers
abbrev Needs : ℕ → (List ℕ → Option ℕ) → Type 0
Needs n f = (xs : List ℕ) → length xs ≢ n → f xs ≡ None

abbrev HasPoint : List ℕ → Type 0
HasPoint text = (position_or_len is_point text < length text) ⊎ (length text ≤ position_or_len is_point text)

abbrev of_pieces : (List ℕ → Option ℕ) → List (List ℕ) → Option ℕ
of_pieces f pieces = of_all f (map byte_number pieces)

cut_last : (f : List ℕ → Option ℕ) → Needs 1 f → (text : List ℕ) → HasPoint text
    → of_pieces f (slice_split is_point text) ≡ of_all f (byte_number text ∷ [])
cut_last f needs text (inl more) =
    let rest : List (List ℕ) = slice_split is_point (back text) in
    ap (of_pieces f) (split-pointed text more)
    ∙ none_of f (map byte_number (front text ∷ rest))
    (λ xs e. needs xs (λ one. absurd (omega (arith, e, one, length-map rest byte_number, length-slice_split is_point (back text)))))
    ∙ sym (ap (λ o. of_all f (o ∷ [])) (short_number-pointed 255 text more))
cut_last f needs text (inr whole) = ap (of_pieces f) (split-whole is_point text whole)

cut_more : (n : ℕ) (f : List ℕ → Option ℕ) → Needs (suc (suc n)) f → (text : List ℕ) → HasPoint text
    → ((g : List ℕ → Option ℕ) → Needs (suc n) g → of_pieces g (slice_split is_point (back text)) ≡ of_all g (cut_numbers n (back text)))
    → of_pieces f (slice_split is_point text) ≡ of_all f (cut_numbers (suc n) text)
cut_more n f needs text (inl more) following = ap (of_pieces f) (split-pointed text more) ∙ first (byte_number (front text))
  where
    rest : List (Option ℕ)
    rest = map byte_number (slice_split is_point (back text))

    first : (o : Option ℕ) → of_all f (o ∷ rest) ≡ of_all f (o ∷ cut_numbers n (back text))
    first None = refl
    first (Some x) =
        of_more f x rest
        ∙ following (λ xs. f (x ∷ xs)) (λ xs other. needs (x ∷ xs) (λ e. other (omega (arith, e))))
        ∙ sym (of_more f x (cut_numbers n (back text)))
cut_more n f needs text (inr whole) following =
    ap (of_pieces f) (split-whole is_point text whole)
    ∙ none_of f (byte_number text ∷ []) (λ xs e. needs xs (λ more. absurd (omega (arith, e, more))))
    ∙ sym (ap (λ t. of_all f (byte_number (front text) ∷ cut_numbers n t)) (back-whole text whole) ∙ empty_none f (byte_number (front text)) n)

-- a function of n + 1 numbers gives the same for the numbers of all pieces as for those that are cut off
cut-numbers : (n : ℕ) (f : List ℕ → Option ℕ) → Needs (suc n) f → (text : List ℕ)
    → of_pieces f (slice_split is_point text) ≡ of_all f (cut_numbers n text)
cut-numbers zero f needs text = cut_last f needs text (cases_lt (position_or_len is_point text) (length text))
cut-numbers (suc n) f needs text =
    cut_more n f needs text (cases_lt (position_or_len is_point text) (length text)) (λ g need. cut-numbers n g need (back text))

four_only : Needs 4 four_bytes
four_only [] h = refl
four_only (a ∷ []) h = refl
four_only (a ∷ b ∷ []) h = refl
four_only (a ∷ b ∷ c ∷ []) h = refl
four_only (a ∷ b ∷ c ∷ d ∷ []) h = absurd (h refl)
four_only (a ∷ b ∷ c ∷ d ∷ e ∷ xs) h = refl

-- the address of a text, from the pieces that were cut off and the numbers that were read
pub dotted_of : (text f0 f1 f2 t1 t2 t3 : List ℕ) →
    f0 ≡ front text → t1 ≡ back text → f1 ≡ front t1 → t2 ≡ back t1 → f2 ≡ front t2 → t3 ≡ back t2 →
    (a b c d : Option ℕ) →
    a ≡ byte_number f0 → b ≡ byte_number f1 → c ≡ byte_number f2 → d ≡ byte_number t3 →
    dotted_address text ≡ of_all four_bytes (a ∷ b ∷ c ∷ d ∷ [])
dotted_of text f0 f1 f2 t1 t2 t3 p0 e1 p1 e2 p2 e3 a b c d ea eb ec ed =
    let second : t2 ≡ back (back text) = e2 ∙ ap back e1 in
    let first_read = ea ∙ ap byte_number p0 in
    let second_read = eb ∙ ap byte_number (p1 ∙ ap front e1) in
    let third_read = ec ∙ ap byte_number (p2 ∙ ap front second) in
    let fourth_read = ed ∙ ap byte_number (e3 ∙ ap back second) in
    cut-numbers 3 four_bytes four_only text
    ∙ sym (ap (of_all four_bytes) (λ i. first_read i ∷ second_read i ∷ third_read i ∷ fourth_read i ∷ []))
