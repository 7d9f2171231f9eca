use Rattle.std.proofs.Common.{◌≡◌, ◌∙◌, List, Some, map, sym, ap}
use Rattle.ipfix_templates.specs.declared.field.Field.{Field}
use Rattle.ipfix_read.specs.Value.{FieldValueView, values_at}
use Rattle.ipfix_read.proofs.RecordValues.{fields_are}
use Rattle.ipfix_read.proofs.value.FieldValues.bytes.Goals as goal

pub returns : goal.returns
returns c =
    let fields : map (λ v. v.field) c.args.self.now ≡ c.self.inside.specifiers.now =
    ap (λ (vs : List FieldValueView). map (λ v. v.field) vs) (sym c.self.view_is) ∙ fields_are c.self.inside.specifiers.now c.self.inside.bytes.now _ c.self.invariant.1 in
    let rest = c.self.invariant.0 in
    (rest, ap (λ (fs : List Field). values_at fs c.self.inside.bytes.now) fields ∙ c.self.invariant.1 ∙ ap (λ (vs : List FieldValueView). Some (vs, rest)) c.self.view_is)
