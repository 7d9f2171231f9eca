use Rattle.std.proofs.Common.{◌∙◌, Some, None, ap, subst, sym}
use Rattle.ipfix_templates.specs.InForce.{InForce}
use Rattle.ipfix_templates.specs.Table.{stored}
use Rattle.ipfix_templates.specs.Template.{Flow, Kind, Options, TemplateView, same_kind}
use Rattle.ipfix_templates.proofs.Parts.{Parted, both, on_err, put}
use Rattle.ipfix_templates.proofs.table.TemplateTable.set.Goals as goal

pub invariant_of-self-in-Flow : goal.invariant_of-self-in-Flow
invariant_of-self-in-Flow c =
    let id = ap (λ (t : TemplateView). t.id) c.template.view_is in
    let kind = sym (ap (λ (t : TemplateView). same_kind t.kind Flow) c.template.view_is) ∙ ap (λ (k : Kind). same_kind k Flow) c.in-Flow.is in
    record { parted = (put _ _ _ _ c.args.domain c.args.template.id (Some c.args.template) None c.in_ok-insert-in-Flow.ensures.ok (rw id at c.remove.ensures) kind c.args.self.now.parted).1 }

pub invariant_of-self-in-Options : goal.invariant_of-self-in-Options
invariant_of-self-in-Options c =
    let id = ap (λ (t : TemplateView). t.id) c.template.view_is in
    let kind = sym (ap (λ (t : TemplateView). same_kind t.kind Options) c.template.view_is) ∙ ap (λ (k : Kind). same_kind k Options) c.in-Options.is in
    record { parted = (put _ _ _ _ c.args.domain c.args.template.id None (Some c.args.template) (rw id at c.remove-in-Options.ensures) c.in_ok-insert-in-Options.ensures.ok kind c.args.self.now.parted).1 }

pub returns-in_ok-insert-in-Flow-clause-ok : goal.returns-in_ok-insert-in-Flow-clause-ok
returns-in_ok-insert-in-Flow-clause-ok c =
    let id = ap (λ (t : TemplateView). t.id) c.template.view_is in
    let kind = sym (ap (λ (t : TemplateView). same_kind t.kind Flow) c.template.view_is) ∙ ap (λ (k : Kind). same_kind k Flow) c.in-Flow.is in
    (put _ _ _ _ c.args.domain c.args.template.id (Some c.args.template) None c.in_ok-insert-in-Flow.ensures.ok (rw id at c.remove.ensures) kind c.args.self.now.parted).0

pub returns-in_ok-insert-in-Options-clause-ok : goal.returns-in_ok-insert-in-Options-clause-ok
returns-in_ok-insert-in-Options-clause-ok c =
    let id = ap (λ (t : TemplateView). t.id) c.template.view_is in
    let kind = sym (ap (λ (t : TemplateView). same_kind t.kind Options) c.template.view_is) ∙ ap (λ (k : Kind). same_kind k Options) c.in-Options.is in
    (put _ _ _ _ c.args.domain c.args.template.id None (Some c.args.template) (rw id at c.remove-in-Options.ensures) c.in_ok-insert-in-Options.ensures.ok kind c.args.self.now.parted).0

pub invariant_of-self : goal.invariant_of-self
invariant_of-self c = record { parted = subst (λ (f : InForce). Parted f (stored c.args.self.now.options)) (sym c.in_err-insert-in-Flow.ensures.err) c.args.self.now.parted }

pub invariant_of-self-in-Break-branch-2 : goal.invariant_of-self-in-Break-branch-2
invariant_of-self-in-Break-branch-2 c = record { parted = subst (Parted (stored c.args.self.now.flow)) (sym c.in_err-insert-in-Options.ensures.err) c.args.self.now.parted }

pub returns-in_err-insert-in-Flow-clause-err : goal.returns-in_err-insert-in-Flow-clause-err
returns-in_err-insert-in-Flow-clause-err c =
    on_err _ c.from_residual.result (ap (λ (f : InForce). both f (stored c.args.self.now.options)) c.in_err-insert-in-Flow.ensures.err)

pub returns-in_err-insert-in-Options-clause-err : goal.returns-in_err-insert-in-Options-clause-err
returns-in_err-insert-in-Options-clause-err c =
    on_err _ c.from_residual-in_err-insert-in-Options.result (ap (both (stored c.args.self.now.flow)) c.in_err-insert-in-Options.ensures.err)
