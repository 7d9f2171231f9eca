use Rattle.std.proofs.Common.{◌≡◌, not, rules, ap, subst, sym, ◌∙◌, arith}
use borrow.Author.Tests.{tests}
use Rattle.std.specs.List.{IsDistinct, list_any}
use Rattle.std.proofs.lemmas.Iterator.{YieldsList-from_slice}
use Rattle.std.proofs.lemmas.Iterator.Search.{any_from_yields_List}
use Rattle.flow_uniq.specs.Key.{same_field}
use Rattle.flow_uniq.proofs.Reading.{at_most_sixteen, once_more}
use Rattle.flow_uniq.proofs.keys.Keys.add.Goals as goal
use Rattle.flow_uniq.proofs.keys.Keys.add.Goals.{After-any}

is_there : (c : After-any) → c.any.result ≡ list_any (same_field c.args.field) c.args.self.now
is_there c =
    any_from_yields_List (same_field c.args.field) _ _ _ c.any.ensures.ran (YieldsList-from_slice c.args.self.now (c.iter.ensures.rest ∙ c.fields.ensures))
    (λ x b q k. search (rules, tests))

pub returns-then-any-clause-new : goal.returns-then-any-clause-new
returns-then-any-clause-new c = ap not (sym c.if-any.true ∙ is_there (goal.at.returns-then-any-clause-new c).After-any)

pub push-requires : goal.push-requires
push-requires c = (
  omega arith,
  at_most_sixteen c.self.inside.fields.items c.args.field c.self.invariant
      (ap (list_any (same_field c.args.field)) c.self.view_is ∙ sym (is_there (goal.at.push-requires c).After-any) ∙ c.if-any.false),
)

pub invariant_of-self : goal.invariant_of-self
invariant_of-self c =
    subst (IsDistinct same_field) (sym c.push.ensures.items)
    (once_more c.self.inside.fields.items c.args.field c.self.invariant
    (ap (list_any (same_field c.args.field)) c.self.view_is ∙ sym (is_there (goal.at.invariant_of-self c).After-any) ∙ c.if-any.false))

pub returns-clause-new : goal.returns-clause-new
returns-clause-new c = ap not (sym c.if-any.false ∙ is_there (goal.at.returns-clause-new c).After-any)
