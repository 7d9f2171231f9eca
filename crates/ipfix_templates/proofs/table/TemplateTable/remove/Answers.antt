use Rattle.std.proofs.Common.{None, Some, rules}
use Rattle.ipfix_templates.proofs.Parts.{changed}
use Rattle.ipfix_templates.proofs.table.TemplateTable.remove.Goals as goal

pub returns-in-Some : goal.returns-in-Some
returns-in-Some c =
    let w = c.remove.new.self in
    changed _ _ c.args.domain (Some w) ((c.get_mut.follows.holds w).3 (search rules)).0 c.args.id None
    (λ q. rw (← c.in-Some.ensures.value) (c.remove.ensures.updates.0 q))
