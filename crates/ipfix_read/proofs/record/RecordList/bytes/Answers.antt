use Rattle.std.proofs.Common.{List, subst}
use Rattle.ipfix_read.specs.declared.record.Record.{Record}
use Rattle.ipfix_read.specs.WholeRecords.{AreInBytes}
use Rattle.ipfix_read.proofs.RecordValues.{in_bytes}
use Rattle.ipfix_read.proofs.record.RecordList.bytes.Goals as goal

pub returns : goal.returns
returns c =
    subst (λ (rs : List Record). AreInBytes rs c.self.inside.bytes.now) c.self.view_is
    (in_bytes c.self.inside.kind c.self.inside.specifiers c.self.inside.count c.self.inside.bytes.now)
