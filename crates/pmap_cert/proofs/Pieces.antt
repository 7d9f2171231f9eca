-- The pieces of a text between its line feeds, and those of a line between its spaces.
use Rattle.std.proofs.Common.{◌≡◌, ℕ, ◌+◌, ◌<◌, ◌≤◌, ◌==◌, ◌∙◌, Bool, true, false, List, [], ◌∷◌, ◌++◌, Some, None, length, take, drop, refl, sym, ap, subst, arith, cond, ltb}
use Rattle.std.specs.List.{AllByRecursion, after_first, before_first, join_with_byte, onto_first, position_or_len, slice_split}
use Rattle.std.specs.Prelude.{position}
use Rattle.std.proofs.lemmas.Bool.{eq-eqb, ltb-false, ltb-true, ne_eqb}
use Rattle.std.proofs.lemmas.Option.{cond_some, none-some}
use Rattle.std.proofs.lemmas.List.{append_assoc}
use Rattle.std.proofs.lemmas.List.Splits.{join_with_byte-slice_split, length-slice_split, slice_split_at, slice_split_first, slice_split_none}
use Rattle.prefix_keys.proofs.Pieces.{split-whole}
use Rattle.prefix_keys.proofs.Printed.{Lacks}
use Rattle.pmap_cert.specs.FormatReading.{is_ended, line_from, pieces_of}
use Rattle.pmap_cert.specs.CertificateText.{text_of_lines}

-- the position of a first element that passes is within the list
pub found_at : {X : Type 0} (p : X → Bool) (text : List X) (end : ℕ) → position p text ≡ Some end → (position_or_len p text < length text) × (position_or_len p text ≡ end)
found_at p text end e =
    let found = cond_some (ltb (position_or_len p text) (length text)) (position_or_len p text) end e in
    (ltb-true _ _ found.0, found.1)

pub found_nowhere : (p : ℕ → Bool) (text : List ℕ) → position p text ≡ None → length text ≤ position_or_len p text
found_nowhere p text e = by (ltb (position_or_len p text) (length text)) refl
  where
    by : (b : Bool) → ltb (position_or_len p text) (length text) ≡ b → length text ≤ position_or_len p text
    by true h = absurd (none-some _ (sym e ∙ ap (λ b. cond b (Some (position_or_len p text)) None) h))
    by false h = ltb-false _ _ h

-- a text has at least one piece
pub split_some : (p : ℕ → Bool) (text : List ℕ) → 0 < length (slice_split p text)
split_some p text = omega (arith, length-slice_split p text)

-- the first of two or more pieces is the next line
pub line_from-cons : (number : ℕ) (line : List ℕ) (rest : List (List ℕ)) → 0 < length rest → line_from number (line ∷ rest) ≡ Some (line, record { number = number + 1; pieces = rest })
line_from-cons number line [] h = absurd (omega arith)
line_from-cons number line (piece ∷ pieces) h = refl

-- the next line of a text with a line feed
pub line_from-feed : (number : ℕ) (text : List ℕ) (end : ℕ) → position (λ b. b == 10) text ≡ Some end → line_from number (pieces_of text) ≡ Some (take end text, record { number = number + 1; pieces = pieces_of (drop (end + 1) text) })
line_from-feed number text end e =
    let p : ℕ → Bool = λ b. b == 10 in
    let found = found_at p text end e in
    subst (λ (end : ℕ). line_from number (pieces_of text) ≡ Some (take end text, record { number = number + 1; pieces = pieces_of (drop (end + 1) text) })) found.1
    (ap (line_from number) (slice_split_first p text 0 found.0)
    ∙ line_from-cons number (before_first p text) (slice_split p (after_first p text)) (split_some p (after_first p text)))

-- a text without a line feed has no next line
pub line_from-whole : (number : ℕ) (text : List ℕ) → position (λ b. b == 10) text ≡ None → line_from number (pieces_of text) ≡ None
line_from-whole number text e = ap (line_from number) (split-whole (λ b. b == 10) text (found_nowhere (λ b. b == 10) text e))

-- only an empty text is at its end
not-ended : (b : ℕ) (pieces : List (List ℕ)) → 0 < length pieces → (is_ended ([] ∷ pieces) ≡ false) × (is_ended (onto_first b pieces) ≡ false)
not-ended b [] h = absurd (omega arith)
not-ended b (piece ∷ []) h = (refl, refl)
not-ended b (piece ∷ next ∷ pieces) h = (refl, refl)

pub is_ended-pieces : (text : List ℕ) → is_ended (pieces_of text) ≡ (length text == 0)
is_ended-pieces [] = refl
is_ended-pieces (b ∷ bs) = by (b == 10) refl ∙ sym (ne_eqb (length (b ∷ bs)) 0 (λ e. omega arith))
  where
    by : (t : Bool) → (b == 10) ≡ t → is_ended (pieces_of (b ∷ bs)) ≡ false
    by true e = rw e ((not-ended b (pieces_of bs) (split_some (λ b. b == 10) bs)).0)
    by false e = rw e ((not-ended b (pieces_of bs) (split_some (λ b. b == 10) bs)).1)

-- lines and an empty piece, joined by line feeds, are the text of the lines
joined-lines : (lines : List (List ℕ)) → join_with_byte 10 (lines ++ [] ∷ []) ≡ text_of_lines lines
joined-lines [] = refl
joined-lines (line ∷ []) = sym (append_assoc line (10 ∷ []) [])
joined-lines (line ∷ next ∷ lines) =
    ap (λ text. line ++ 10 ∷ text) (joined-lines (next ∷ lines)) ∙ sym (append_assoc line (10 ∷ []) (text_of_lines (next ∷ lines)))

pub text_from_pieces : (text : List ℕ) (lines : List (List ℕ)) → pieces_of text ≡ lines ++ [] ∷ [] → text ≡ text_of_lines lines
text_from_pieces text lines e =
    sym (join_with_byte-slice_split 10 text) ∙ ap (join_with_byte 10) e ∙ joined-lines lines

-- the pieces of a text of lines are the lines and an empty piece
pub pieces-lines : (lines : List (List ℕ)) → AllByRecursion (Lacks 10) lines → pieces_of (text_of_lines lines) ≡ lines ++ [] ∷ []
pieces-lines [] none = refl
pieces-lines (line ∷ lines) none =
    ap pieces_of (append_assoc line (10 ∷ []) (text_of_lines lines))
    ∙ slice_split_at (λ b. b == 10) line 10 (text_of_lines lines) none.0 (eq-eqb 10 10 refl)
    ∙ ap (λ pieces. line ∷ pieces) (pieces-lines lines none.1)

-- words without spaces are the words of the line of them
-- the words of a line
abbrev pub words_of : List ℕ → List (List ℕ)
words_of line = slice_split (λ b. b == 32) line

pub words-line : (word : List ℕ) (words : List (List ℕ)) → Lacks 32 word → AllByRecursion (Lacks 32) words → words_of (join_with_byte 32 (word ∷ words)) ≡ word ∷ words
words-line word [] first rest = slice_split_none (λ b. b == 32) word first
words-line word (next ∷ words) first rest =
    slice_split_at (λ b. b == 32) word 32 (join_with_byte 32 (next ∷ words)) first (eq-eqb 32 32 refl)
    ∙ ap (λ words. word ∷ words) (words-line next words rest.0 rest.1)
