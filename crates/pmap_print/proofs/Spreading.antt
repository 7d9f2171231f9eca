-- How the sized fields of a line are printed, each filled to its column.
use Rattle.std.proofs.Common.{ℕ, suc, ◌≡◌, ◌+◌, ◌-◌, ◌<◌, ◌≤◌, ◌∙◌, List, [], ◌∷◌, ◌++◌, length, map, take, drop, get_or, replicate, ap, sym, refl, arith, append_assoc, drop-cons}
use Rattle.std.specs.Prelude.{slice_index}
use Rattle.std.specs.List.{enumerate_from, join_with_byte}
use Rattle.std.proofs.lemmas.List.{append-nil, drop-drop, drop_all, drop_at, length-append, length-drop, take_at}
use Rattle.pmap_print.specs.Table.{Fits, Line, Text, filled, filled_line, line_text, sized}

-- the text of fields that end a line, if there are any
abbrev pub ending : Line → Text
ending [] = []
ending (f ∷ fs) = line_text (f ∷ fs)

-- the byte after a field that is followed by these
abbrev pub end_byte : Line → ℕ
end_byte [] = 10
end_byte (f ∷ fs) = 124

ending-first : (f : Text) (fs : Line) → ending (f ∷ fs) ≡ f ++ end_byte fs ∷ ending fs
ending-first f [] = refl
ending-first f (g ∷ fs) = append_assoc f (124 ∷ join_with_byte 124 (g ∷ fs)) (10 ∷ [])

-- the fields of a line from an index on, each filled
abbrev pub filled_from : (ℕ → ℕ) → ℕ → Line → Line
filled_from width k fields = map (λ e. filled (width e.0) e.1) (enumerate_from k fields)

-- the byte after a field that is followed by these
ends : (width : ℕ → ℕ) (k : ℕ) (fields : Line) (end : ℕ) → (0 < length fields → end ≡ 124) → (length fields ≡ 0 → end ≡ 10)
    → end ≡ end_byte (filled_from width k fields)
ends width k [] end more none = none refl
ends width k (f ∷ fields) end more none = more (omega arith)

-- The fields before an index are printed, and the others are still to be read.
pub record IsPushed (width : ℕ → ℕ) (fields : Line) (more old : Text) (i : ℕ) (rest now : Text) : Type 0 where
  pub back : rest ≡ sized (drop i fields) ++ more
  pub front : now ++ ending (filled_from width i (drop i fields)) ≡ old ++ line_text (filled_line width fields)

pub none_pushed : (width : ℕ → ℕ) (widths : List ℕ) (fields : Line) (more old rest : Text) → Fits width widths fields → rest ≡ sized fields ++ more
    → IsPushed width fields more old 0 rest old
none_pushed width widths [] more old rest fits is = absurd (omega (arith, fits.some))
none_pushed width widths (f ∷ fields) more old rest fits is = record { back = is; front = refl }

-- the next field is printed
module _ (width : ℕ → ℕ) (widths : List ℕ) (fields : Line) (more old : Text) (i : ℕ) (rest now : Text) (fits : Fits width widths fields)
    (is : IsPushed width fields more old i rest now) (inside : i < length widths) where
  abbrev field : Text
  field = get_or fields i []

  abbrev others : Line
  others = drop (i + 1) fields

  here : drop i fields ≡ field ∷ others
  here = drop-cons fields i [] (omega (arith, inside, fits.all)) ∙ ap (λ k. field ∷ drop k fields) (let next : suc i ≡ i + 1 = omega arith in next)

  back : rest ≡ length field ∷ (field ++ (sized others ++ more))
  back =
      is.back ∙ ap (λ (l : Line). sized l ++ more) here
      ∙ ap (λ (t : Text). length field ∷ t) (append_assoc field (sized others) more)

  -- the length of the field, which is read first
  abbrev n : ℕ
  n = get_or rest 0 0

  size : n ≡ length field
  size = ap (λ (l : Text). get_or l 0 0) back

  pub can_read : (0 < length rest) × (n ≤ slice_index widths i) × (n + 1 ≤ length rest)
  can_read = (
    omega (arith, ap length back),
    omega (arith, size, fits.narrow i, fits.widths i inside),
    omega (arith, size, ap length back, length-append field (sized others ++ more)),
  )

  pub pushed : (rest_now now_next : Text) (end : ℕ) → (i + 1 < length widths → end ≡ 124) → (length widths ≤ i + 1 → end ≡ 10)
      → rest_now ≡ drop (n + 1) rest
      → now_next ≡ ((now ++ replicate (slice_index widths i - n) 32) ++ take n (drop 1 rest)) ++ end ∷ []
      → IsPushed width fields more old (i + 1) rest_now now_next
  pushed rest_now now_next end between last left written =
      let wide : Text = filled (width i) field in
      let after : Line = filled_from width (i + 1) others in
      let tail : drop 1 rest ≡ field ++ (sized others ++ more) = ap (drop 1) back in
      let one : n + 1 ≡ 1 + n = omega arith in
      let text_is : replicate (slice_index widths i - n) 32 ++ take n (drop 1 rest) ≡ wide =
      (λ j. replicate (fits.widths i inside j - size j) 32 ++ (ap (take n) tail ∙ take_at field (sized others ++ more) n (sym size)) j) in
      let ended : wide ++ end ∷ ending after ≡ ending (filled_from width i (drop i fields)) =
      ap (λ b. wide ++ b ∷ ending after) (ends width (i + 1) others end
      (λ more. between (omega (arith, more, length-drop (i + 1) fields, fits.all)))
      (λ none. last (omega (arith, none, length-drop (i + 1) fields, fits.all))))
      ∙ sym (ending-first wide after)
      ∙ ap (λ (l : Line). ending (filled_from width i l)) (sym here) in
      record {
        back =
            left ∙ ap (λ k. drop k rest) one ∙ sym (drop-drop n 1 rest) ∙ ap (drop n) tail
            ∙ drop_at field (sized others ++ more) n (sym size);
        front =
            ap (λ (l : Text). l ++ ending after)
            (written ∙ ap (λ (l : Text). l ++ end ∷ []) (append_assoc now _ (take n (drop 1 rest)) ∙ ap (λ (l : Text). now ++ l) text_is)
            ∙ append_assoc now wide (end ∷ []))
            ∙ append_assoc now (wide ++ end ∷ []) (ending after)
            ∙ ap (λ (l : Text). now ++ l) (append_assoc wide (end ∷ []) (ending after) ∙ ended) ∙ is.front;
      }

-- the length of the next field is there, and the field
pub reads : (widths : List ℕ) (text old : Text) (i : ℕ) (rest now : Text)
    → (width : ℕ → ℕ) × (fields : Line) × (more : Text) × Fits width widths fields × (text ≡ sized fields ++ more)
    → ((width : ℕ → ℕ) (fields : Line) (more : Text) → Fits width widths fields → text ≡ sized fields ++ more → IsPushed width fields more old i rest now)
    → i < length widths → (0 < length rest) × (get_or rest 0 0 ≤ slice_index widths i) × (get_or rest 0 0 + 1 ≤ length rest)
reads widths text old i rest now (width, fields, more, fits, is) pushed inside =
    can_read width widths fields more old i rest now fits (pushed width fields more fits is) inside

-- all fields are printed
pub all_pushed : (width : ℕ → ℕ) (widths : List ℕ) (fields : Line) (more old : Text) (i : ℕ) (rest now : Text) → Fits width widths fields
    → length widths ≤ i → IsPushed width fields more old i rest now → (rest ≡ more) × (now ≡ old ++ line_text (filled_line width fields))
all_pushed width widths fields more old i rest now fits past is =
    let none : drop i fields ≡ [] = drop_all i fields (omega (arith, past, fits.all)) in (
      is.back ∙ ap (λ (l : Line). sized l ++ more) none,
      sym (append-nil now) ∙ ap (λ (l : Line). now ++ ending (filled_from width i l)) (sym none) ∙ is.front,
    )
