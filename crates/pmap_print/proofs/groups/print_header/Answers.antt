use Rattle.std.proofs.Common.{ℕ, ◌≡◌, ◌+◌, ◌∙◌, ◌∷◌, ◌++◌, [], List, ap, arith, drop, map, sym}
use Rattle.std.specs.Prelude.{codes}
use Rattle.std.proofs.lemmas.List.{drop_more, length-append}
use Rattle.flow_uniq.specs.Key.{field_name}
use Rattle.flow_uniq.specs.declared.field.KeyField.{KeyField}
use Rattle.pmap_print.specs.Table.{Line, ended, filled_by, line_text}
use Rattle.pmap_print.proofs.FilledLines.{field_printed}
use Rattle.pmap_print.proofs.groups.print_header.Goals as goal

pub loop-field-preserved : goal.loop-field-preserved
loop-field-preserved g c =
    let fields : List KeyField = c.args.fields.now in
    let i : ℕ = c.loop-field.field-index in
    let field : KeyField = c.field-item.result in
    let old : List ℕ = (g.S.Sink.sink c.loop-field.out).printed in
    let totals : Line = codes "records" ∷ codes "packets" ∷ codes "bytes" ∷ [] in
    let more : Line = map field_name (drop (i + 1) fields) ++ totals in
    let so_far = c.loop-field.invariant in
    let pushed = c.in_ok-push_field.ensures in
    let here : field ∷ drop (i + 1) fields ≡ drop i fields =
    ap (λ (f : KeyField). f ∷ drop (i + 1) fields) c.field-item.is ∙ sym (drop_more fields i field c.loop-field-test.true) in (
      field_printed old _ c.loop-field.rest.now _ _ (field_name field) more (omega (arith, length-append (map field_name (drop (i + 1) fields)) totals))
          c.first_width-width.ensures (pushed.0 ∙ ap (λ (t : List ℕ). old ++ ended c.first_width-width.result.0 124 t) (c.as_bytes.ensures.value ∙ c.name.ensures))
          ∙ ap (λ (fs : List KeyField). old ++ line_text (filled_by c.loop-field.rest.now (map field_name fs ++ totals))) here ∙ so_far.0,
      pushed.1 ∙ so_far.1,
      λ first h. pushed.2 first (so_far.2 first h),
    )
