use Rattle.std.proofs.Common.{◌≡◌, map, Some, sym, ap, subst, ◌∙◌, slice_get}
use Rattle.std.specs.List.{position_or_len}
use Rattle.std.specs.Str.{bytes_eq}
use Rattle.pmap_model.specs.Label.{number_of, with_label, IsLabelTable}
use Rattle.pmap_model.proofs.LabelTexts.{number_of-added, slice_get-number, slice_get-with_label, position_or_len-map, map-insert_key, IsLabelTable-with_label}
use Rattle.pmap_model.proofs.labels.Labels.add_new.Goals as goal

-- the texts after the call
added : (c : goal.In_ok-index) → map (λ v. v.items) c.insert_full.new.self.keys ≡ with_label c.args.self.now c.args.text.now
added c =
    ap (map (λ v. v.items)) c.in_ok-index.ensures.keys ∙ map-insert_key (λ v. v.items) c.self.inside.texts.keys c.in_ok-from_slice.field-0
    ∙ (λ i. with_label (c.self.view_is i) (c.in_ok-from_slice.ensures.ok i))

pub invariant_of-self-2 : goal.invariant_of-self-2
invariant_of-self-2 c =
    subst IsLabelTable (sym (added c)) (IsLabelTable-with_label c.args.self.now c.args.text.now (subst IsLabelTable c.self.view_is c.self.invariant) c.requires.label c.requires.room)

pub returns-clause-ok : goal.returns-clause-ok
returns-clause-ok c = added c

pub returns-clause-number : goal.returns-clause-number
returns-clause-number c =
    let first : position_or_len (bytes_eq c.args.text.now) c.args.self.now ≡ c.in_ok-index.index =
    (λ i. position_or_len (bytes_eq (sym c.in_ok-from_slice.ensures.ok i)) (sym c.self.view_is i))
    ∙ position_or_len-map (λ v. v.items) (bytes_eq c.in_ok-from_slice.field-0.items) c.self.inside.texts.keys ∙ sym c.in_ok-index.ensures.index in
    ap (λ t. number_of t c.args.text.now) (added c) ∙ number_of-added c.args.self.now c.args.text.now ∙ ap Some first

pub returns-clause-text : goal.returns-clause-text
returns-clause-text c = slice_get-number _ c.args.text.now c.in_ok-index.index (returns-clause-number c)

pub returns-clause-kept : goal.returns-clause-kept
returns-clause-kept c = λ i t e. subst (λ ts. slice_get ts i ≡ Some t) (sym (added c)) (slice_get-with_label c.args.self.now c.args.text.now i t e)
