-- The rows that pass two conditions are those that pass one and then the other.
use Rattle.std.proofs.Common.{◌≡◌, ◌∙◌, ◌&&◌, ◌++◌, Bool, true, false, cond, List, [], ◌∷◌, Option, filter, ap, refl}
use Rattle.std.proofs.lemmas.List.Folds.{list_all-append}
use Rattle.label_lookup.specs.Labelling.{Labelling, label_where}
use Rattle.flow_rows.specs.Elements.{RowView}
use Rattle.flow_filter.specs.Condition.{Condition, meets_option, passing, row_passes}

-- the rows that pass a test which is two others together
module _ (both one other : RowView → Bool) (is : (row : RowView) → both row ≡ (one row && other row)) where
  in_turn : (rows : List RowView) → filter both rows ≡ filter other (filter one rows)
  in_turn [] = refl
  in_turn (row ∷ rows) = ap (λ b. cond b (row ∷ filter both rows) (filter both rows)) (is row) ∙ by (one row) (in_turn rows)
    where
      by : (b : Bool) → filter both rows ≡ filter other (filter one rows)
          → cond (b && other row) (row ∷ filter both rows) (filter both rows) ≡ filter other (cond b (row ∷ filter one rows) (filter one rows))
      by true ih = ap (λ (l : List RowView). cond (other row) (row ∷ l) l) ih
      by false ih = ih

module _ (labels : Option Labelling) where
  pub passing-together : (one other : Condition) (rows : List RowView) → passing (one ++ other) labels rows ≡ passing other labels (passing one labels rows)
  passing-together one other =
      in_turn (row_passes (one ++ other) (label_where labels)) (row_passes one (label_where labels)) (row_passes other (label_where labels))
      (λ row. list_all-append (meets_option (label_where labels) row) one other)
