use Rattle.std.proofs.Common.{◌≡◌, ◌∙◌, Some, Option, ap, cond, rules}
use Rattle.std.specs.BTreeMap.{is_at}
use Rattle.std.specs.BTreeMap.Entry.{map_with_value}
use Rattle.std.specs.Map.{lookup}
use Rattle.std.specs.Ordering.{nat_cmp}
use Rattle.ipfix_templates.specs.InForce.{changed_at}
use Rattle.ipfix_templates.specs.Table.{stored}
use Rattle.ipfix_templates.specs.Template.{TemplateView}
use Rattle.ipfix_templates.proofs.Parts.{changed, kept, or_empty}
use Rattle.ipfix_templates.proofs.table.TemplateTable.insert.Goals as goal

pub returns-clause-ok : goal.returns-clause-ok
returns-clause-ok c =
    let w = c.insert.new.self in
    let had = or_empty _ _ _ _ c.or_insert-templates.ensures.value c.in_ok-domains.ensures.value c.new.ensures.empty in
    let is : stored (map_with_value c.in_ok-domains.field-0 w) ≡ changed_at (stored c.args.domains.now) c.args.domain c.template.inside.id (Some c.args.template) =
    changed _ _ c.args.domain (Some w) (c.in_ok-domains.ensures.update.0 w).0 c.template.inside.id (Some c.args.template)
    (λ i. c.in_ok-insert.ensures.updates.0 i ∙ ap (λ (o : Option TemplateView). cond (is_at (nat_cmp c.template.inside.id) i) (Some c.args.template) o) (had i)) in
    search rules

pub returns-in_err-insert-clause-err : goal.returns-in_err-insert-clause-err
returns-in_err-insert-clause-err c =
    let w = c.insert.new.self in
    let had = or_empty _ _ _ _ c.or_insert-templates.ensures.value c.in_ok-domains.ensures.value c.new.ensures.empty in
    let is : stored (map_with_value c.in_ok-domains.field-0 w) ≡ stored c.args.domains.now =
    kept _ _ c.args.domain (Some w) (c.in_ok-domains.ensures.update.0 w).0 (λ i. ap (lookup (is_at (nat_cmp i))) c.in_err-insert.ensures.err ∙ had i) in
    search rules
