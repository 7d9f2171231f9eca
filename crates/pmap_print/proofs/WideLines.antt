-- One more line of a table with columns.
use Rattle.std.proofs.Common.{ℕ, ◌≡◌, ◌+◌, ◌<◌, ◌≤◌, ◌∙◌, max, List, [], ◌∷◌, ◌++◌, length, map, drop, get_or, set, ap, sym, subst, arith, ◌⊎◌, inl, inr}
use Rattle.std.specs.Prelude.{fold, slice_index}
use Rattle.std.proofs.lemmas.Grind.{fold-append}
use Rattle.std.proofs.lemmas.Bool.{cases_lt}
use Rattle.std.proofs.lemmas.List.{get_or-set_other, get_or-set_same, drop-drop, drop_at, drop_more, length-append, map_push}
use Rattle.std.proofs.lemmas.List.Elements.{All-append, All-cons, All-nil}
use Rattle.pmap_print.specs.Table.{AreWide, Line, Text, column_width, sized, Columns}

column_width-push : (lines : List Line) (line : Line) (k : ℕ) → column_width (lines ++ line ∷ []) k ≡ max (column_width lines k) (length (get_or line k []))
column_width-push lines line k =
    let size : Line → ℕ = λ fields. length (get_or fields k []) in
    ap (fold max 0) (map_push size lines line) ∙ fold-append max 0 (map size lines) (size line ∷ [])

pub wide-more : (count : ℕ) (lines : List Line) (line : Line) (old new : Columns) → AreWide count lines old → length line ≡ count
    → length new.widths.items ≡ length old.widths.items
    → ((k : ℕ) → k < count → slice_index new.widths.items k ≡ max (slice_index old.widths.items k) (length (get_or line k [])))
    → AreWide count (lines ++ line ∷ []) new
wide-more count lines line old new are all same wide =
    let P : Line → Type 0 = λ l. length l ≡ count in
    record {
      some = are.some;
      even = All-append P lines (line ∷ []) are.even (All-cons P line [] all (All-nil P));
      columns = same ∙ are.columns;
      widths = λ k inside. omega (arith, wide k inside, are.widths k inside, column_width-push lines line k);
    }

-- the next field of a line, whose sized fields are read one after another
module _ (fields : Line) (i : ℕ) (inside : i < length fields) (rest : Text) (is : rest ≡ sized (drop i fields)) where
  first : rest ≡ length (get_or fields i []) ∷ (get_or fields i [] ++ sized (drop (i + 1) fields))
  first = is ∙ ap sized (drop_more fields i [] inside)

  pub field_there : (0 < length rest) × (length (get_or fields i []) + 1 ≤ length rest)
  field_there = (omega (arith, ap length first), omega (arith, ap length first, length-append (get_or fields i []) (sized (drop (i + 1) fields))))

  pub field_size : (size : ℕ) → size ≡ get_or rest 0 0 → size ≡ length (get_or fields i [])
  field_size size read = read ∙ ap (λ (l : Text). get_or l 0 0) first

  pub field_read : (size : ℕ) → size ≡ length (get_or fields i []) → drop (size + 1) rest ≡ sized (drop (i + 1) fields)
  field_read size is_size =
      let one : size + 1 ≡ 1 + size = omega arith in
      ap (λ k. drop k rest) one ∙ sym (drop-drop size 1 rest) ∙ ap (λ (l : Text). drop size (drop 1 l)) first
      ∙ drop_at (get_or fields i []) (sized (drop (i + 1) fields)) size (sym is_size)

-- the widths of the columns before an index are those for one more line, and the others are as they were
module _ (old now : List ℕ) (i x : ℕ) (inside : i < length now) where
  pub widened : (line : Line) → x ≡ max (slice_index now i) (length (get_or line i [])) → slice_index now i ≡ slice_index old i
      → ((k : ℕ) → k < i → slice_index now k ≡ max (slice_index old k) (length (get_or line k [])))
      → (k : ℕ) → k < i + 1 → slice_index (set now i x) k ≡ max (slice_index old k) (length (get_or line k []))
  widened line is kept wide k below = by (cases_lt k i)
    where
      by : (k < i) ⊎ (i ≤ k) → slice_index (set now i x) k ≡ max (slice_index old k) (length (get_or line k []))
      by (inl before) = get_or-set_other now i k x 0 (λ e. omega (arith, before, e)) ∙ wide k before
      by (inr after) =
          let here : i ≡ k = omega (arith, below, after) in
          subst (λ j. slice_index (set now i x) j ≡ max (slice_index old j) (length (get_or line j []))) here
          (get_or-set_same now i x 0 inside ∙ is ∙ ap (λ w. max w (length (get_or line i []))) kept)

  pub unchanged : ((k : ℕ) → i ≤ k → slice_index now k ≡ slice_index old k) → (k : ℕ) → i + 1 ≤ k → slice_index (set now i x) k ≡ slice_index old k
  unchanged same k above = get_or-set_other now i k x 0 (λ e. omega (arith, above, e)) ∙ same k (omega (arith, above))
