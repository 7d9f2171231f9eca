use Rattle.std.proofs.Common.{◌≡◌, All, length, subst}
use Rattle.flow_uniq.specs.Groups.{GroupModel, GroupsModel}
use Rattle.flow_uniq.proofs.Entering.{parts-kept}
use Rattle.flow_uniq.proofs.groups.Groups.fields.Goals as goal

pub returns-clause-parts : goal.returns-clause-parts
returns-clause-parts c =
    subst (λ (v : GroupsModel). All (λ (g : GroupModel). length g.key ≡ length v.fields) v.groups) c.self.view_is
    (parts-kept (length c.self.inside.fields.items) c.self.inside.totals.entries c.self.invariant)
