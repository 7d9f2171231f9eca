use Rattle.std.proofs.Common.{◌≡◌, ◌∙◌, Some, sym, ap, map, option_map, slice_get}
use Rattle.std.proofs.lemmas.Option.{slice_get-map}
use Rattle.pmap_text.specs.Declarations.{declared_text}
use Rattle.pmap_text.proofs.Pairs.{declared_text-none, declared_text-some}
use Rattle.pmap_text.proofs.reading.declarations.Declarations.text_of.Goals as goal
use Rattle.pmap_text.proofs.reading.declarations.Declarations.text_of.Goals.{After-as_slice}

pub returns-in_err-index-clause-value : goal.returns-in_err-index-clause-value
returns-in_err-index-clause-value c =
    ap (option_map (λ t. t.now)) c.from_residual.ensures
    ∙ sym (declared_text-none c.self.inside.numbers.keys (map (λ v. v.items) c.self.inside.texts.keys) c.self.invariant.same_count c.args.number
    (sym c.in_err-index.ensures.index))
    ∙ ap (λ d. declared_text d c.args.number) c.self.view_is

-- the text is at the index of its number
place : (c : After-as_slice) → slice_get (map (λ v. v.items) c.self.inside.texts.keys) c.in_ok-index.index ≡ Some c.as_slice.result.now
place c =
    slice_get-map (λ v. v.items) c.self.inside.texts.keys c.in_ok-index.index
    ∙ ap (option_map (λ v. v.items)) (sym c.in_ok-get_index.ensures.key) ∙ ap Some (sym c.as_slice.ensures.value)

pub returns-clause-value : goal.returns-clause-value
returns-clause-value c =
    sym (declared_text-some c.self.inside.numbers.keys (map (λ v. v.items) c.self.inside.texts.keys) c.self.invariant.same_count c.args.number
    c.in_ok-index.index c.as_slice.result.now (sym c.in_ok-index.ensures.index) (place c))
    ∙ ap (λ d. declared_text d c.args.number) c.self.view_is

pub returns-clause-label : goal.returns-clause-label
returns-clause-label c = c.self.invariant.labels c.in_ok-index.index c.as_slice.result.now (place c)
