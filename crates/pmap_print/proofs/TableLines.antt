-- One more line of a table.
use Rattle.std.proofs.Common.{arith, ℕ, Bool, false, true≢false, ◌≡◌, ◌<◌, ◌∙◌, List, [], ◌∷◌, ◌++◌, Option, Some, None, is_some, option_map, unwrap_or, drop, length, ap, sym, refl, subst, append_assoc}
use Rattle.std.specs.List.{flat_map, join_with_byte}
use Rattle.std.specs.Option.{ForSome}
use Rattle.std.proofs.lemmas.Grind.{flat_map-append}
use Rattle.std.proofs.lemmas.List.{append-nil, drop_at}
use Rattle.flow_rows.specs.Elements.{RowView}
use Rattle.pmap_print.specs.Reports.{RowLabels, column_count, label_texts, row_line}
use Rattle.pmap_print.specs.Table.{AreWide, Columns, End, IsTable, Length, Line, Table, Text, added_line, has_columns, header_text, line_text, marked, marked_line, sized}

joined : (f : Text) (fs : Line) → f ++ flat_map (marked (End 124)) fs ≡ join_with_byte 124 (f ∷ fs)
joined f [] = append-nil f
joined f (g ∷ fs) = ap (λ (t : Text). f ++ 124 ∷ t) (joined g fs)

pub all_sized : (line : Line) → marked_line Length Length line ≡ sized line
all_sized [] = refl
all_sized (f ∷ fs) = refl

-- a line after a text that has no line feed at its end yet
pub line_after : (old new : Text) (line : Line) → 0 < length line → new ≡ old ++ marked_line (End 10) (End 124) line
    → new ++ 10 ∷ [] ≡ (old ++ 10 ∷ []) ++ line_text line
line_after old new [] some text = absurd (omega (arith, some))
line_after old new (f ∷ fs) some text =
    let fields : Text = join_with_byte 124 (f ∷ fs) in
    ap (λ (l : Text). l ++ 10 ∷ []) (text ∙ ap (λ (l : Text). old ++ 10 ∷ l) (joined f fs))
    ∙ append_assoc old (10 ∷ fields) (10 ∷ [])
    ∙ sym (append_assoc old (10 ∷ []) (fields ++ 10 ∷ []))

pub plain_added : (front old new : Text) (lines : List Line) (line : Line) → 0 < length line → old ++ 10 ∷ [] ≡ front ++ flat_map line_text lines
    → new ≡ old ++ marked_line (End 10) (End 124) line → new ++ 10 ∷ [] ≡ front ++ flat_map line_text (lines ++ line ∷ [])
plain_added front old new lines line some so_far text =
    line_after old new line some text ∙ ap (λ (l : Text). l ++ line_text line) so_far ∙ append_assoc front (flat_map line_text lines) (line_text line)
    ∙ ap (λ (l : Text). front ++ l)
    (sym (flat_map-append line_text lines (line ∷ []) ∙ ap (λ (l : Text). flat_map line_text lines ++ l) (append-nil (line_text line))))

sized_added : (old new : Text) (lines : List Line) (line : Line) → old ≡ flat_map sized lines → new ≡ old ++ sized line
    → new ≡ flat_map sized (lines ++ line ∷ [])
sized_added old new lines line so_far text =
    text ∙ ap (λ (l : Text). l ++ sized line) so_far
    ∙ sym (flat_map-append sized lines (line ∷ []) ∙ ap (λ (l : Text). flat_map sized lines ++ l) (append-nil (sized line)))

none_here : (o : Option Columns) (c : Columns) → o ≡ Some c → is_some o ≡ false → ⊥
none_here o c e f = true≢false (sym (ap is_some e) ∙ f)

-- the header is printed in an empty table
module _ (count : ℕ) (line : Line) (widths : Option Columns) (text : Text) (columns : Bool) (wide : ForSome widths (AreWide count []))
    (all : length line ≡ count) (has : is_some widths ≡ columns) (text_is : text ≡ header_text columns line) where
  sized_header : (c : Columns) → widths ≡ Some c → text ≡ sized line
  sized_header c e = text_is ∙ ap (λ b. header_text b line) (sym has ∙ ap is_some e)

  pub header_fits : ForSome widths (λ c. (fields : Line) × (text ≡ sized fields) × (length fields ≡ length c.widths.items))
  header_fits = λ c e. (line, sized_header c e, all ∙ sym (wide c e).columns)

  pub header_printed : (new : Table) → new.text.items ≡ text → has_columns new ≡ is_some widths
      → ((n : ℕ) (ls : List Line) (fields : Line) → ForSome widths (AreWide n ls) → text ≡ sized fields → length fields ≡ n
      → ForSome new.columns (AreWide n (ls ++ fields ∷ []))) → IsTable count (line ∷ []) new
  header_printed new same kept more = by widths refl
    where
      by : (o : Option Columns) → widths ≡ o → IsTable count (line ∷ []) new
      by None e = record {
        plain = λ _.
            ap (λ (l : Text). l ++ 10 ∷ []) (same ∙ text_is ∙ ap (λ b. header_text b line) (sym has ∙ ap is_some e)) ∙ sym (append-nil (line_text line));
        padded = λ c f. absurd (none_here new.columns c f (kept ∙ ap is_some e));
      }
      by (Some c) e = record {
        plain = λ f. absurd (none_here widths c e (sym kept ∙ ap is_some f));
        padded = λ d f. (same ∙ sized_header c e ∙ sym (append-nil (sized line)), more count [] line wide (sized_header c e) all d f);
      }

-- a line is printed at the end of a table
module _ (count : ℕ) (lines : List Line) (line : Line) (old : Table) (text : Text) (begin : ℕ) (is : IsTable count lines old)
    (all : length line ≡ count) (at : begin ≡ length old.text.items) (text_is : text ≡ old.text.items ++ added_line (has_columns old) line) where
  sized_text : (c : Columns) → old.columns ≡ Some c → text ≡ old.text.items ++ sized line
  sized_text c e =
      text_is ∙ ap (λ (o : Option Columns). old.text.items ++ added_line (is_some o) line) e ∙ ap (λ (l : Text). old.text.items ++ l) (all_sized line)

  sized_end : (c : Columns) → old.columns ≡ Some c → drop begin text ≡ sized line
  sized_end c e = ap (drop begin) (sized_text c e) ∙ drop_at old.text.items (sized line) begin (sym at)

  pub fits_columns : ForSome old.columns (λ c. (fields : Line) × (drop begin text ≡ sized fields) × (length fields ≡ length c.widths.items))
  fits_columns = λ c e. (line, sized_end c e, all ∙ sym (is.padded c e).1.columns)

  -- the columns, if there are any, are widened for it
  pub line_printed : (new : Table) → 0 < length line → new.text.items ≡ text → has_columns new ≡ has_columns old
      → ((n : ℕ) (ls : List Line) (fields : Line) → ForSome old.columns (AreWide n ls) → drop begin text ≡ sized fields → length fields ≡ n
      → ForSome new.columns (AreWide n (ls ++ fields ∷ []))) → IsTable count (lines ++ line ∷ []) new
  line_printed new some same kept wide = by old.columns refl
    where
      by : (o : Option Columns) → old.columns ≡ o → IsTable count (lines ++ line ∷ []) new
      by None e = record {
        plain = λ _. plain_added [] old.text.items new.text.items lines line some (is.plain e)
            (same ∙ text_is ∙ ap (λ (o : Option Columns). old.text.items ++ added_line (is_some o) line) e);
        padded = λ c f. absurd (none_here new.columns c f (kept ∙ ap is_some e));
      }
      by (Some c) e = record {
        plain = λ f. absurd (none_here old.columns c e (sym kept ∙ ap is_some f));
        padded = λ d f. (
          sized_added old.text.items new.text.items lines line (is.padded c e).0 (same ∙ sized_text c e),
          wide count lines line (λ d e. (is.padded d e).1) (sized_end c e) all d f,
        );
      }

-- a line is printed at the end of a table without columns
pub plain_printed : (count : ℕ) (lines : List Line) (line : Line) (old new : Table) → IsTable count lines old → 0 < length line
    → has_columns old ≡ false → new.columns ≡ old.columns → new.text.items ≡ old.text.items ++ marked_line (End 10) (End 124) line → IsTable count (lines ++ line ∷ []) new
plain_printed count lines line old new is some none kept text = by old.columns refl
  where
    by : (o : Option Columns) → old.columns ≡ o → IsTable count (lines ++ line ∷ []) new
    by None e = record {
      plain = λ _. plain_added [] old.text.items new.text.items lines line some (is.plain e) text;
      padded = λ c f. absurd (none_here new.columns c f (ap is_some (kept ∙ e)));
    }
    by (Some c) e = absurd (none_here old.columns c e none)

pub length-row_line : (row : RowView) (labels : Option RowLabels) → length (row_line row (option_map label_texts labels)) ≡ column_count (is_some labels)
length-row_line row None = refl
length-row_line row (Some labels) = refl

pub has_fields : (row : RowView) (labels : Option RowLabels) → 0 < length (row_line row (option_map label_texts labels))
has_fields row None = omega arith
has_fields row (Some labels) = omega arith

-- a property of the columns that are there
pub some-columns : (P : Columns → Type 0) (c : Columns) → P c → ForSome (Some c) P
some-columns P c holds = λ x e. subst P (ap (λ o. unwrap_or o c) e) holds
