use Rattle.std.proofs.Common.{None, refl}
use Rattle.ipfix_templates.proofs.Parts.{dropped, flow_dropped, options_dropped}
use Rattle.ipfix_templates.proofs.table.TemplateTable.withdraw_all.Goals as goal
use Rattle.ipfix_templates.proofs.table.TemplateTable.withdraw_all.Goals.{in-Flow, in-Options}

pub returns : goal.returns
returns c = elim c.match-kind.branch [
  | in-Flow w ↦ rw (w.self-is, w.in-Flow.is) (flow_dropped _ _ _ c.args.domain c.args.self.now.parted (dropped _ _ c.args.domain None w.remove.ensures.updates.0 refl))
  | in-Options w ↦ rw (w.self-is, w.in-Options.is) (options_dropped _ _ _ c.args.domain c.args.self.now.parted (dropped _ _ c.args.domain None w.remove-in-Options.ensures.updates.0 refl))
]
