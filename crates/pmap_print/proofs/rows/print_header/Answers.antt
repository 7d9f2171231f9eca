use Rattle.std.proofs.Common.{◌≡◌, ◌∙◌, Bool, false, true, [], ◌∷◌, ◌++◌, ap, append_assoc, refl, sym}
use Rattle.std.specs.List.{join_with_byte}
use Rattle.pmap_print.specs.Table.{Text, header_text, sized}
use Rattle.pmap_print.specs.Reports.{label_titles, row_titles, title_line}
use Rattle.pmap_print.proofs.rows.print_header.Goals as goal
use Rattle.pmap_print.proofs.rows.print_header.Goals.{then-columns, else-columns, in-true-true, in-true-false, in-false-default}

abbrev label_names : Bool → Bool → Text
label_names true true = sized label_titles
label_names true false = 124 ∷ join_with_byte 124 label_titles
label_names false columns = []

all_names : (labelled columns : Bool) → header_text columns row_titles ++ label_names labelled columns ≡ header_text columns (title_line labelled)
all_names true true = refl
all_names true false = refl
all_names false true = refl
all_names false false = refl

pub returns : goal.returns
returns c =
    let labelled : Bool = c.args.labelled in
    let columns : Bool = c.args.columns in
    let names : c.if-columns.names.now ≡ header_text columns row_titles = elim c.if-columns.branch [
      | then-columns w ↦ ap (λ b. b.now) w.names-is ∙ ap (λ b. header_text b row_titles) (sym w.if-columns.true)
      | else-columns w ↦ ap (λ b. b.now) w.names-is ∙ ap (λ b. header_text b row_titles) (sym w.if-columns.false)
    ] in
    let more : c.if-labelled.names.now ≡ label_names labelled columns = elim c.if-labelled.branch [
      | in-true-true w ↦ ap (λ b. b.now) w.names-is ∙ (λ i. label_names (sym w.in-true-true.is-0 i) (sym w.in-true-true.is-1 i))
      | in-true-false w ↦ ap (λ b. b.now) w.names-is ∙ (λ i. label_names (sym w.in-true-false.is-0 i) (sym w.in-true-false.is-1 i))
      | in-false-default w ↦ ap (λ b. b.now) w.names-is ∙ ap (λ b. label_names b columns) (sym w.in-false-default.is-0)
    ] in
    c.in_ok-extend_from_slice-2.ensures.items ∙ (λ i. (c.in_ok-extend_from_slice.ensures.items i) ++ more i)
    ∙ append_assoc c.args.out.now.items c.if-columns.names.now (label_names labelled columns)
    ∙ ap (λ (l : Text). c.args.out.now.items ++ (l ++ label_names labelled columns)) names
    ∙ ap (λ (l : Text). c.args.out.now.items ++ l) (all_names labelled columns)
