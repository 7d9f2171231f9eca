use Rattle.std.proofs.Common.{◌≡◌, ◌≤◌, ◌∙◌, None, Some, ap, arith, refl, rules, subst, sym}
use Rattle.std.proofs.lemmas.Option.{none-some, same_Some}
use Rattle.pmap_model.specs.declared.statement.Statement.{Statement}
use Rattle.pmap_stretches.specs.Stretches.{label_seen}
use Rattle.pmap_stretches.proofs.Ascents.{extended, label_known, open_closed, top_known}
use Rattle.pmap_stretches.proofs.stretches.ascent.Ascent.reach.Goals as goal

pub mapping-mapping-requires : goal.mapping-mapping-requires
mapping-mapping-requires g c = top_known c.loop-self.invariant.continues.ascent.opened c.greatest.ensures c.in-Some.number c.in-Some.is

pub extend-requires-then-last-high-clause-known : goal.extend-requires-then-last-high-clause-known
extend-requires-then-last-high-clause-known g c =
    label_known (Some c.in-Some.number) c.requires.known (sym (ap (label_seen c.args.self.now.default) c.mapping-mapping.ensures))

pub extend-requires-in-loop-self-clause-known : goal.extend-requires-in-loop-self-clause-known
extend-requires-in-loop-self-clause-known g c =
    label_known (Some c.in-Some.number) c.requires.known (sym (ap (label_seen c.args.self.now.default) c.mapping-mapping.ensures))

pub returns-in_default-clause-continues : goal.returns-in_default-clause-continues
returns-in_default-clause-continues g c =
    let none : c.greatest.result ≡ None = search rules in
    let grown = c.in_ok-extend.ensures in
    extended c.args.last c.loop-self.invariant.continues (rw none at c.greatest.ensures) c.requires.later (λ s is. absurd (none-some s is))
    (λ are. grown.are (g.M.Mappings.all c.args.mappings.now) c.loop-self.self.default are refl) grown.last grown.version grown.joined (λ are. are)

pub returns-then-last-high-clause-continues : goal.returns-then-last-high-clause-continues
returns-then-last-high-clause-continues g c =
    let default = c.loop-self.self.default in
    let listed = c.mapping-mapping.ensures in
    let grown = c.in_ok-extend-2.ensures in
    extended c.args.last c.loop-self.invariant.continues (rw c.in-Some.is at c.greatest.ensures) c.requires.later
    (λ s is. subst (λ (r : Statement). c.args.last ≤ r.span.high.value) (same_Some c.mapping-mapping.result s (sym listed ∙ is)) (omega arith))
    (λ are. grown.are (g.M.Mappings.all c.args.mappings.now) default are (sym (ap (label_seen default) listed))) grown.last grown.version grown.joined
    (λ are. are)

pub loop-self-preserved : goal.loop-self-preserved
loop-self-preserved g c =
    let default = c.loop-self.self.default in
    let mapping = c.mapping-mapping.result in
    let listed = c.mapping-mapping.ensures in
    let grown = c.in_ok-extend-3.ensures in
    record {
      continues = extended mapping.span.high.value c.loop-self.invariant.continues (rw c.in-Some.is at c.greatest.ensures)
          (λ i s le below is. omega (arith, c.requires.later i s le below is, c.if-last-high.false))
          (λ s is. subst (λ (r : Statement). mapping.span.high.value ≤ r.span.high.value) (same_Some mapping s (sym listed ∙ is)) (omega arith))
          (λ are. grown.are (g.M.Mappings.all c.args.mappings.now) default are (sym (ap (label_seen default) listed))) grown.last grown.version grown.joined
          (λ are. open_closed are mapping c.remove.ensures listed (omega (arith, grown.last)));
      to = omega (arith, grown.last, c.loop-self.invariant.to, c.if-last-high.false);
    }
