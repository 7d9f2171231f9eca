use Rattle.std.proofs.Common.{◌≡◌, All, List, map, subst}
use Rattle.ipfix_read.specs.declared.record.Record.{Record}
use Rattle.ipfix_read.proofs.RecordValues.{all_of_fields}
use Rattle.ipfix_read.proofs.record.RecordList.fields.Goals as goal

pub returns : goal.returns
returns c =
    subst (λ (rs : List Record). All (λ r. map (λ v. v.field) r.fields ≡ c.self.inside.specifiers) rs) c.self.view_is
    (all_of_fields c.self.inside.kind c.self.inside.specifiers c.self.inside.count c.self.inside.bytes.now)
