use Rattle.std.proofs.Common.{◌≡◌, ◌++◌, ◌∷◌, [], ◌∙◌, ap, sym, map, false, if◌then◌else◌}
use Rattle.std.specs.List.{list_any, zip}
use Rattle.std.specs.Prelude.{nat_eq}
use Rattle.std.specs.Str.{bytes_eq}
use Rattle.indexmap.specs.IndexSet.{insert_key}
use Rattle.pmap_text.specs.Declarations.{conflicts, with_declared}
use Rattle.pmap_model.specs.Label.{with_label}
use Rattle.pmap_model.proofs.Distinct.{distinct_to_map}
use Rattle.pmap_model.proofs.LabelTexts.{map-insert_key, with_label-new}
use Rattle.pmap_text.proofs.Pairs.{ArePaired-push, new_text, with_declared-known, with_declared-new}
use Rattle.pmap_text.proofs.reading.declarations.Declarations.add.Goals as goal

pub returns-then-contains-clause-ok : goal.returns-then-contains-clause-ok
returns-then-contains-clause-ok c =
    sym (ap (λ d. with_declared d (c.args.number, c.args.text.now)) (sym c.self.view_is)
    ∙ with_declared-known c.self.inside.numbers.keys (map (λ v. v.items) c.self.inside.texts.keys) c.self.invariant c.args.number c.args.text.now
    (sym c.contains.ensures ∙ c.if-contains.true)
    ∙ c.self.view_is)

-- the number is new, and so is the text
unknown : (c : goal.In_ok-insert-2) → list_any (nat_eq c.args.number) c.self.inside.numbers.keys ≡ false
unknown c = sym c.contains.ensures ∙ c.if-contains.false

-- the numbers and the texts after the call
numbers : (c : goal.In_ok-insert-2) → c.insert-2.new.self.keys ≡ c.self.inside.numbers.keys ++ c.args.number ∷ []
numbers c =
    c.in_ok-insert-2.ensures.keys ∙ ap (λ ks. insert_key nat_eq ks c.args.number) c.reserve.ensures.keys
    ∙ ap (λ b. if b then c.self.inside.numbers.keys else c.self.inside.numbers.keys ++ c.args.number ∷ []) (unknown c)

texts : (c : goal.In_ok-insert-2) → map (λ v. v.items) c.insert.new.self.keys ≡ map (λ v. v.items) c.self.inside.texts.keys ++ c.args.text.now ∷ []
texts c =
    let before = map (λ v. v.items) c.self.inside.texts.keys in
    ap (map (λ v. v.items)) c.in_ok-insert.ensures.keys ∙ map-insert_key (λ v. v.items) c.self.inside.texts.keys c.in_ok-from_slice.field-0
    ∙ ap (with_label before) c.in_ok-from_slice.ensures.items
    ∙ with_label-new before c.args.text.now (new_text c.self.inside.numbers.keys before c.self.invariant c.args.number c.args.text.now (unknown c)
    (ap (λ d. conflicts d c.args.number c.args.text.now) c.self.view_is ∙ c.requires.agrees))

pub invariant_of-self-2 : goal.invariant_of-self-2
invariant_of-self-2 c =
    ArePaired-push c.self.inside.numbers.keys (map (λ v. v.items) c.self.inside.texts.keys) c.self.invariant c.args.number c.args.text.now c.requires.label
    c.insert-2.new.self.keys (map (λ v. v.items) c.insert.new.self.keys) (numbers c) (texts c) c.insert-2.ensures.unique
    (distinct_to_map (λ v. v.items) bytes_eq c.insert.new.self.keys c.insert.ensures.unique)

pub returns-clause-ok : goal.returns-clause-ok
returns-clause-ok c =
    (λ i. zip (numbers c i) (texts c i))
    ∙ sym (with_declared-new c.self.inside.numbers.keys (map (λ v. v.items) c.self.inside.texts.keys) c.self.invariant c.args.number c.args.text.now (unknown c))
    ∙ ap (λ d. with_declared d (c.args.number, c.args.text.now)) c.self.view_is
