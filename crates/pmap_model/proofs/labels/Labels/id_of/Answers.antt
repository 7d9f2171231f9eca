use Rattle.std.proofs.Common.{option_map, sym, ap, subst, ◌∙◌}
use Rattle.std.specs.Str.{bytes_eq}
use Rattle.pmap_model.specs.Label.{number_of, IsLabelTable}
use Rattle.pmap_model.proofs.LabelTexts.{position-map, slice_get-number}
use Rattle.pmap_model.proofs.labels.Labels.id_of.Goals as goal

pub returns-clause-value : goal.returns-clause-value
returns-clause-value c =
    sym c.in_ok-get_index_of.was ∙ c.get_index_of.ensures.index ∙ sym (position-map _ (bytes_eq c.args.text.now) c.self.inside.texts.keys) ∙ ap (λ t. number_of t c.args.text.now) c.self.view_is

pub returns-clause-text : goal.returns-clause-text
returns-clause-text c = slice_get-number c.args.self.now c.args.text.now c.in_ok-get_index_of.field-0 (sym (returns-clause-value c))

pub returns-in_err-get_index_of-clause-value : goal.returns-in_err-get_index_of-clause-value
returns-in_err-get_index_of-clause-value c =
    ap (option_map (λ id. id.0)) c.from_residual.ensures ∙ sym c.in_err-get_index_of.was ∙ c.get_index_of.ensures.index ∙ sym (position-map _ (bytes_eq c.args.text.now) c.self.inside.texts.keys) ∙ ap (λ t. number_of t c.args.text.now) c.self.view_is

pub returns-clause-label : goal.returns-clause-label
returns-clause-label c = (subst IsLabelTable c.self.view_is c.self.invariant).labels c.in_ok-get_index_of.field-0 c.args.text.now (returns-clause-text c)
