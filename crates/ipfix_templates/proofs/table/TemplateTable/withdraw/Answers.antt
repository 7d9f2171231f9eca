use Rattle.std.proofs.Common.{None, refl}
use Rattle.ipfix_templates.proofs.Parts.{put}
use Rattle.ipfix_templates.proofs.table.TemplateTable.withdraw.Goals as goal

pub invariant_of-self : goal.invariant_of-self
invariant_of-self c = record { parted = (put _ _ _ _ c.args.domain c.args.id None None c.remove.ensures c.remove-2.ensures refl c.args.self.now.parted).1 }

pub returns : goal.returns
returns c = (put _ _ _ _ c.args.domain c.args.id None None c.remove.ensures c.remove-2.ensures refl c.args.self.now.parted).0
