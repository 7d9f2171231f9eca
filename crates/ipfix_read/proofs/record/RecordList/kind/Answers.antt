use Rattle.std.proofs.Common.{◌≡◌, All, List, subst}
use Rattle.ipfix_read.specs.declared.record.Record.{Record}
use Rattle.ipfix_read.proofs.RecordValues.{all_of_kind}
use Rattle.ipfix_read.proofs.record.RecordList.kind.Goals as goal

pub returns : goal.returns
returns c =
    subst (λ (rs : List Record). All (λ r. r.kind ≡ c.self.inside.kind) rs) c.self.view_is
    (all_of_kind c.self.inside.kind c.self.inside.specifiers c.self.inside.count c.self.inside.bytes.now)
