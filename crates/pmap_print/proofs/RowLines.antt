-- The lines of rows, one by one.
use Rattle.std.proofs.Common.{ℕ, suc, ◌≡◌, ◌+◌, ◌<◌, ◌≤◌, ◌∙◌, List, [], ◌∷◌, ◌++◌, length, map, take, get_or, is_some, Option, Some, None, Bor, add-one, ap, sym, refl, arith}
use Rattle.std.specs.List.{zip}
use Rattle.std.specs.Option.{ForSome}
use Rattle.std.proofs.lemmas.List.{get_or-map, length-map, take_all, take_more}
use Rattle.std.proofs.lemmas.Slice.Zip.{get_or-zip, length-zip}
use Rattle.flow_rows.specs.Elements.{RowView}
use Rattle.pmap_print.specs.Reports.{RowLabels, labels_of_row, LabelTexts, given_labels, label_fields, label_texts, row_fields, row_line, row_lines, title_line}
use Rattle.pmap_print.specs.Table.{Line}

-- the lines of rows, with labels if they are given
abbrev pub lines_of : List RowView → Option (Bor (List RowLabels)) → List Line
lines_of rows labels = row_lines rows (given_labels labels)

length-lines : (rows : List RowView) (labels : Option (Bor (List RowLabels))) → ForSome labels (λ given. length given.now ≡ length rows)
    → length (lines_of rows labels) ≡ suc (length rows)
length-lines rows None has = ap suc (length-map rows row_fields)
length-lines rows (Some given) has =
    let texts : List LabelTexts = map label_texts given.now in
    ap suc (length-map (zip rows texts) (λ p. row_fields p.0 ++ label_fields p.1))
    ∙ omega (arith, has given refl, length-map given.now label_texts, length-zip rows texts)

-- the line of a row is after the header and the lines of the rows before it
line_at : (rows : List RowView) (labels : Option (Bor (List RowLabels))) (i : ℕ) (row : RowView) → ForSome labels (λ given. length given.now ≡ length rows)
    → get_or rows i row ≡ row → i < length rows
    → get_or (lines_of rows labels) (suc i) [] ≡ row_line row (labels_of_row (given_labels labels) i)
line_at rows None i row has found within =
    get_or-map row_fields rows i row [] within ∙ ap row_fields found
line_at rows (Some given) i row has found within =
    let fields : RowView × LabelTexts → Line = λ p. row_fields p.0 ++ label_fields p.1 in
    let texts : List LabelTexts = map label_texts given.now in
    let in_texts : i < length texts = omega (arith, has given refl, length-map given.now label_texts) in
    get_or-map fields (zip rows texts) i (row, (None, None)) [] (omega (arith, length-zip rows texts))
    ∙ ap fields (get_or-zip rows texts i (row, (None, None)) within in_texts)
    ∙ ap (λ (r : RowView). row_fields r ++ label_fields (get_or texts i (None, None))) found

pub header_alone : (rows : List RowView) (labels : Option (Bor (List RowLabels))) → title_line (is_some labels) ∷ [] ≡ take 1 (lines_of rows labels)
header_alone rows None = refl
header_alone rows (Some given) = refl

pub line_added : (rows : List RowView) (labels : Option (Bor (List RowLabels))) (i : ℕ) (row : RowView) (own : Option LabelTexts)
    → ForSome labels (λ given. length given.now ≡ length rows) → row ≡ get_or rows i row → i < length rows → own ≡ labels_of_row (given_labels labels) i
    → take (i + 1) (lines_of rows labels) ++ row_line row own ∷ [] ≡ take (i + 1 + 1) (lines_of rows labels)
line_added rows labels i row own has is within same =
    let at : get_or (lines_of rows labels) (i + 1) [] ≡ row_line row own =
    rw add-one (line_at rows labels i row has (sym is) within) ∙ ap (row_line row) (sym same) in
    ap (λ (line : Line). take (i + 1) (lines_of rows labels) ++ line ∷ []) (sym at)
    ∙ sym (take_more (lines_of rows labels) (i + 1) [] (omega (arith, within, length-lines rows labels has)))

pub all_lines : (rows : List RowView) (labels : Option (Bor (List RowLabels))) (i : ℕ) → ForSome labels (λ given. length given.now ≡ length rows)
    → length rows ≤ i → take (i + 1) (lines_of rows labels) ≡ lines_of rows labels
all_lines rows labels i has past = take_all (i + 1) (lines_of rows labels) (omega (arith, past, length-lines rows labels has))
