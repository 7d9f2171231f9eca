-- The padded lines of a table with columns.
use Rattle.std.proofs.Common.{ℕ, zero, suc, ◌≡◌, ◌<◌, ◌≤◌, ◌∙◌, max, All, List, [], ◌∷◌, ◌++◌, length, map, get_or, ap, append_assoc, sym, arith}
use Rattle.std.specs.Prelude.{fold}
use Rattle.std.specs.List.{flat_map}
use Rattle.std.proofs.lemmas.List.{append-nil, get_or-map, length-append, length-map}
use Rattle.std.proofs.lemmas.List.Elements.{All-head, All-tail}
use Rattle.pmap_print.specs.Table.{AreWide, Columns, Fits, Line, Text, column_width, filled_line, line_text, sized}

-- no field is wider than its column
fold-le : (a : ℕ) (ns : List ℕ) → a ≤ fold max a ns
fold-le a [] = omega arith
fold-le a (n ∷ ns) = omega (arith, fold-le (max a n) ns)

fold-at : (a : ℕ) (ns : List ℕ) (i : ℕ) → i < length ns → get_or ns i 0 ≤ fold max a ns
fold-at a [] i inside = absurd (omega (arith, inside))
fold-at a (n ∷ ns) zero inside = omega (arith, fold-le (max a n) ns)
fold-at a (n ∷ ns) (suc i) inside = fold-at (max a n) ns i (omega (arith, inside))

pub fit : (count : ℕ) (lines : List Line) (c : Columns) → AreWide count lines c → All (Fits (column_width lines) c.widths.items) lines
fit count lines c are = λ i d inside. record {
  some = omega (arith, are.some, are.even i d inside);
  all = are.even i d inside ∙ sym are.columns;
  widths = λ k below. are.widths k (omega (arith, below, are.columns));
  narrow = λ k.
      let size : Line → ℕ = λ fields. length (get_or fields k []) in
      omega (arith, fold-at 0 (map size lines) i (omega (arith, length-map lines size, inside)), get_or-map size lines i d 0 inside);
}

-- lines that are still to be read, and those before them, which are printed
abbrev pub padded : (ℕ → ℕ) → List Line → Text
padded width lines = flat_map line_text (map (filled_line width) lines)

pub record AreLeft (width : ℕ → ℕ) (widths : List ℕ) (rest now whole : Text) : Type 0 where
  pub lines : List Line
  pub fit : All (Fits width widths) lines
  pub back : rest ≡ flat_map sized lines
  pub front : now ++ padded width lines ≡ whole

sized-some : (fields : Line) → 0 < length fields → 0 < length (sized fields)
sized-some [] some = absurd (omega (arith, some))
sized-some (f ∷ fields) some = omega arith

-- the first of them
pub record First (width : ℕ → ℕ) (widths : List ℕ) (rest now whole : Text) : Type 0 where
  pub fields : Line
  pub more : Text
  pub fit : Fits width widths fields
  pub is : rest ≡ sized fields ++ more
  pub printed : (rest_now now_next : Text) → rest_now ≡ more → now_next ≡ now ++ line_text (filled_line width fields)
      → AreLeft width widths rest_now now_next whole × (length rest_now < length rest)

pub first_line : (width : ℕ → ℕ) (widths : List ℕ) (rest now whole : Text) → AreLeft width widths rest now whole → 0 < length rest
    → First width widths rest now whole
first_line width widths rest now whole left some = by left.lines left.fit left.back left.front
  where
    by : (ls : List Line) → All (Fits width widths) ls → rest ≡ flat_map sized ls → now ++ padded width ls ≡ whole → First width widths rest now whole
    by [] fit back front = absurd (omega (arith, ap length back, some))
    by (l ∷ ls) fit back front =
        let head = All-head (Fits width widths) l ls fit in
        record {
          fields = l;
          more = flat_map sized ls;
          fit = head;
          is = back;
          printed = λ rest_now now_next is pushed. (
            record {
              lines = ls;
              fit = All-tail (Fits width widths) l ls fit;
              back = is;
              front = ap (λ (t : Text). t ++ padded width ls) pushed ∙ append_assoc now (line_text (filled_line width l)) (padded width ls) ∙ front;
            },
            omega (arith, ap length is, ap length back, length-append (sized l) (flat_map sized ls), sized-some l head.some),
          );
        }

-- all lines are printed
pub all_lines : (width : ℕ → ℕ) (widths : List ℕ) (rest now whole : Text) → AreLeft width widths rest now whole → length rest ≡ 0 → now ≡ whole
all_lines width widths rest now whole left none = by left.lines left.fit left.back left.front
  where
    by : (ls : List Line) → All (Fits width widths) ls → rest ≡ flat_map sized ls → now ++ padded width ls ≡ whole → now ≡ whole
    by [] fit back front = sym (append-nil now) ∙ front
    by (l ∷ ls) fit back front =
        absurd (omega (arith, ap length back, length-append (sized l) (flat_map sized ls), sized-some l (All-head (Fits width widths) l ls fit).some, none))
