-- A word that doesn't look like an address is not one.
use Rattle.std.proofs.Common.{◌≡◌, ◌||◌, ◌&&◌, ◌==◌, ◌⊎◌, ◌∷◌, [], ℕ, Bool, List, Option, None, true, false, refl, ap, map, slice_index, inl, inr, ◌∙◌}
use Rattle.std.specs.List.{list_any, list_all, slice_split, onto_first}
use Rattle.std.proofs.lemmas.Bool.{cases_Bool, or_parts}
use Rattle.std.proofs.lemmas.List.Splits.{slice_split-cons_no, slice_split-cons_yes}
use Rattle.prefix_keys.specs.Text.{address_of, is_digit, dotted_address, four_bytes, decimal_number}
use Rattle.prefix_keys.proofs.Pieces.{of_all, short_number-undigit}

-- a text that begins with no digit is no IPv4 address
undotted : (text : List ℕ) → is_digit (slice_index text 0) ≡ false → dotted_address text ≡ None
undotted [] h = refl
undotted (b ∷ bs) h = by (cases_Bool (is_point b))
  where
    is_point : ℕ → Bool
    is_point x = x == 46

    address : List (List ℕ) → Option ℕ
    address pieces = of_all four_bytes (map (decimal_number 3 255) pieces)

    undigit : (text : List ℕ) → decimal_number 3 255 (b ∷ text) ≡ None
    undigit text = short_number-undigit 255 (b ∷ text) (ap (λ is. is && list_all is_digit text) h)

    after : (pieces : List (List ℕ)) → address (onto_first b pieces) ≡ None
    after [] = rw (undigit []) refl
    after (text ∷ pieces) = rw (undigit text) refl

    by : (is_point b ≡ true) ⊎ (is_point b ≡ false) → dotted_address (b ∷ bs) ≡ None
    by (inl point) = ap address (slice_split-cons_yes is_point b bs point)
    by (inr other) = ap address (slice_split-cons_no is_point b bs other) ∙ after (slice_split is_point bs)

-- a word that begins with no digit and has no colon is no address
pub unlike_address : (word : List ℕ) → (is_digit (slice_index word 0) || list_any (λ b. b == 58) word) ≡ false → address_of word ≡ None
unlike_address word h =
    let (first, colon) = or_parts _ _ h in
    rw (colon, undotted word first) refl
