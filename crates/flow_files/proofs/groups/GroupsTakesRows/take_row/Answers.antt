use Rattle.std.proofs.Common.{◌∙◌, ◌++◌, ◌∷◌, [], List, Option, ap, arith, length-append, sym}
use Rattle.std.proofs.lemmas.List.{map-append}
use Rattle.std.proofs.lemmas.Result.{on_ok_weaker}
use Rattle.flow_rows.specs.Elements.{RowView}
use Rattle.flow_uniq.specs.Groups.{groups_of_keyed}
use Rattle.flow_uniq.proofs.Grouping.{keyed}
use Rattle.flow_uniq.specs.Key.{key_of}
use Rattle.flow_uniq.specs.declared.field.KeyField.{KeyField}
use Rattle.label_lookup.specs.Labelling.{Labelling, label_where}
use Rattle.flow_files.specs.Reports.{labelling_found}
use Rattle.flow_files.proofs.RowLemmas.{on_ok_both}
use Rattle.flow_files.proofs.groups.GroupsTakesRows.take_row.Goals as goal

pub add-requires : goal.add-requires
add-requires c = let (first, rows, has, few) = c.requires in omega (arith, has.few, few)

pub returns : goal.returns
returns c =
    let labels : Option Labelling = labelling_found c.args.labels in
    let row : RowView = c.args.row.now in
    on_ok_weaker c.add.result
    (λ (ok, count) first rows has.
    record {
      fields = c.add.ensures.fields ∙ has.fields;
      groups =
          ok (keyed first.fields (label_where labels) rows) has.groups
          ∙ ap (λ (fields : List KeyField). groups_of_keyed (keyed first.fields (label_where labels) rows ++ (key_of (label_where labels) fields row, row) ∷ [])) has.fields
          ∙ ap groups_of_keyed (sym (map-append (λ (r : RowView). (key_of (label_where labels) first.fields r, r)) rows (row ∷ [])));
      few = omega (arith, has.few, count, length-append rows (row ∷ []));
    })
    (on_ok_both _ _ c.add.result c.add.ensures.ok c.add.ensures.count)
