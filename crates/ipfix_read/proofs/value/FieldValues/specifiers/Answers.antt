use Rattle.std.proofs.Common.{◌∙◌, List, map, sym, ap}
use Rattle.ipfix_read.specs.Value.{FieldValueView}
use Rattle.ipfix_read.proofs.RecordValues.{fields_are}
use Rattle.ipfix_read.proofs.value.FieldValues.specifiers.Goals as goal

pub returns : goal.returns
returns c =
    sym (fields_are c.self.inside.specifiers.now c.self.inside.bytes.now _ c.self.invariant.1)
    ∙ ap (λ (vs : List FieldValueView). map (λ v. v.field) vs) c.self.view_is
