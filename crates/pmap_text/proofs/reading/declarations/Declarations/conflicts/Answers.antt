use Rattle.std.proofs.Common.{◌∙◌, ap, sym, not, map}
use Rattle.std.specs.Option.{option_eq}
use Rattle.std.specs.Prelude.{nat_eq}
use Rattle.std.specs.Str.{bytes_eq}
use Rattle.pmap_text.specs.Declarations.{conflicts}
use Rattle.pmap_model.proofs.LabelTexts.{position-map}
use Rattle.pmap_text.proofs.Pairs.{conflicts-places, same_places}
use Rattle.pmap_text.proofs.reading.declarations.Declarations.conflicts.Goals as goal

pub returns : goal.returns
returns c =
    let numbers = c.self.inside.numbers.keys in
    let texts = map (λ v. v.items) c.self.inside.texts.keys in
    c.ne.ensures
    ∙ (λ i. not (option_eq nat_eq (c.get_index_of.ensures.index i) ((c.get_index_of-2.ensures.index ∙ sym (position-map (λ v. v.items) (bytes_eq c.args.text.now) c.self.inside.texts.keys)) i)))
    ∙ ap not (same_places (nat_eq c.args.number) (bytes_eq c.args.text.now) numbers texts (sym c.self.invariant.same_count))
    ∙ sym (conflicts-places numbers texts c.self.invariant.same_count c.self.invariant.numbers_once c.self.invariant.texts_once c.args.number c.args.text.now)
    ∙ ap (λ d. conflicts d c.args.number c.args.text.now) c.self.view_is
