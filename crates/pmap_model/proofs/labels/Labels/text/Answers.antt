use Rattle.std.proofs.Common.{◌≡◌, ◌∙◌, sym, ap, subst, slice_get, Some, option_map}
use Rattle.std.proofs.lemmas.Option.{slice_get-map}
use Rattle.pmap_model.specs.Label.{IsLabelTable}
use Rattle.pmap_model.proofs.labels.Labels.text.Goals as goal
use Rattle.pmap_model.proofs.labels.Labels.text.Goals.{After-as_slice}

-- the table has the text at the index that is its number
place : (c : After-as_slice) → slice_get c.args.self.now c.args.id.0 ≡ Some c.as_slice.result.now
place c =
    ap (λ t. slice_get t c.args.id.0) (sym c.self.view_is) ∙ slice_get-map (λ v. v.items) c.self.inside.texts.keys c.args.id.0
    ∙ ap (option_map (λ v. v.items)) (sym c.in_ok-get_index.ensures.key) ∙ ap Some (sym c.as_slice.ensures)

pub returns-clause-number : goal.returns-clause-number
returns-clause-number c = (subst IsLabelTable c.self.view_is c.self.invariant).places c.args.id.0 c.as_slice.result.now (place c)

pub returns-clause-label : goal.returns-clause-label
returns-clause-label c = (subst IsLabelTable c.self.view_is c.self.invariant).labels c.args.id.0 c.as_slice.result.now (place c)
