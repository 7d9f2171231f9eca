use Rattle.std.proofs.Common.{◌≡◌, All, arith, subst}
use Rattle.std.proofs.lemmas.Grind.{common_steps}
use Rattle.ipfix_templates.specs.declared.kind.Kind.{Kind}
use Rattle.ipfix_templates.specs.declared.kind.Kind.TheVariants.{Flow, Options}
use Rattle.flow_rows.proofs.LayoutRows.{of_kind_counted}
use Rattle.flow_rows.proofs.counts.Counts.add_set.Goals as goal

pub returns-in-Flow-clause-counts : goal.returns-in-Flow-clause-counts
returns-in-Flow-clause-counts c =
    let all = subst (λ (kind : Kind). All (λ r. r.kind ≡ kind) c.in-Values.records) c.in-Flow.is c.kind.ensures in
    let flows = of_kind_counted Flow c.in-Values.records Flow all in
    let options = of_kind_counted Options c.in-Values.records Flow all in
    grind (arith, common_steps, flows, options)

pub returns-in-Options-clause-counts : goal.returns-in-Options-clause-counts
returns-in-Options-clause-counts c =
    let all = subst (λ (kind : Kind). All (λ r. r.kind ≡ kind) c.in-Values.records) c.in-Options.is c.kind.ensures in
    let flows = of_kind_counted Flow c.in-Values.records Options all in
    let options = of_kind_counted Options c.in-Values.records Options all in
    grind (arith, common_steps, flows, options)
