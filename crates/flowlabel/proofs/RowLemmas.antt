-- The lines of rows, one by one.
use Rattle.std.proofs.Common.{◌≡◌, ◌∙◌, [], ◌∷◌, ◌++◌, List, Option, Some, None, is_some, map, refl, ap}
use Rattle.std.specs.Prelude.{option_map}
use Rattle.std.proofs.lemmas.List.{map-append}
use Rattle.flow_rows.specs.Elements.{RowView}
use Rattle.pmap_print.specs.declared.row_labels.RowLabels.{RowLabels}
use Rattle.pmap_print.specs.Reports.{label_texts, row_line, title_line}
use Rattle.pmap_print.specs.Table.{Line}
use Rattle.label_lookup.specs.Labelling.{Labelling}
use Rattle.flow_files.specs.Groups.{row_columns}
use Rattle.flowlabel.specs.Output.{labelled_row_lines}
use Rattle.flowlabel.specs.Printouts.{row_labels}

-- the fields of a row
abbrev pub line_of_row : Option Labelling → RowView → Line
line_of_row labels row = map (λ c. c.1) (row_columns labels row)

-- they are those of the printed line, with the labels of the row's addresses if there is a labelling
fields_are : (labels : Option Labelling) (row : RowView) → line_of_row labels row ≡ row_line row (option_map (λ l. row_labels l row) labels)
fields_are None row = refl
fields_are (Some l) row = refl

-- the lines of rows, with that of one more row
pub lines_more : (labels : Option Labelling) (shown : List RowView) (row : RowView)
    → labelled_row_lines labels (shown ++ row ∷ []) ≡ labelled_row_lines labels shown ++ row_line row (option_map (λ l. row_labels l row) labels) ∷ []
lines_more labels shown row =
    ap (λ (lines : List Line). title_line (is_some labels) ∷ lines) (map-append (line_of_row labels) shown (row ∷ []))
    ∙ ap (λ (line : Line). labelled_row_lines labels shown ++ line ∷ []) (fields_are labels row)

-- rows have labels exactly if there is a labelling
pub same_labelled : (labels : Option Labelling) (own : Option RowLabels) (row : RowView)
    → option_map label_texts own ≡ option_map (λ l. row_labels l row) labels → is_some own ≡ is_some labels
same_labelled None None row same = refl
same_labelled None (Some l) row same = ap is_some same
same_labelled (Some l) None row same = ap is_some same
same_labelled (Some l) (Some own) row same = refl
