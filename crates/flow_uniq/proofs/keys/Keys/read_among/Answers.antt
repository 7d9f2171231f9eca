use Rattle.std.proofs.Common.{◌≡◌, true, None, Some, if◌then◌else◌, length, lit<, map, ap, sym, subst, ◌∙◌}
use Rattle.std.specs.Prelude.{is_none, ok_or}
use Rattle.std.specs.List.{IsDistinct}
use Rattle.std.proofs.lemmas.Iterator.Consumers.{YieldsList-end, YieldsList-turn}
use Rattle.std.proofs.lemmas.Iterator.Splits.{YieldsList-from_str_split}
use Rattle.std.proofs.lemmas.List.{map_push}
use Rattle.std.proofs.lemmas.List.Folds.{list_any_at}
use Rattle.std.proofs.lemmas.Result.{err_from_is_err_and}
use Rattle.flow_uniq.specs.Key.{BadField, FieldRepeated, field_named, has_unnamed, items_of, keys_among, same_field}
use Rattle.flow_uniq.proofs.Reading.{IsRead, fault_of, none_there, not_read, read_all, read_more}
use Rattle.flow_uniq.proofs.keys.Keys.read_among.Goals as goal

pub invariant_of-keys : goal.invariant_of-keys
invariant_of-keys c = subst (IsDistinct same_field) (sym c.new.ensures) none_there

pub returns-in_err-field : goal.returns-in_err-field
returns-in_err-field c =
    let turn =
    YieldsList-turn (YieldsList-from_str_split 44 c.args.text.now (lit< tt) (cc) (cc) (cc))
    c.loop-name.yielded _ c.loop-name.yielded_by _ _ c.in-Some.name c.in-Some.is c.next.ensures.steps in
    let none : c.field_named.result ≡ None = c.in_err-field.ensures.ok_part in
    let unnamed : has_unnamed c.args.known.now (items_of c.args.text.now) ≡ true =
    list_any_at (λ item. is_none (field_named c.args.known.now item)) (items_of c.args.text.now) (length c.loop-name.yielded) c.in-Some.name.now turn.0
    (ap (λ item. is_none (field_named c.args.known.now item)) (sym turn.1) ∙ ap is_none (sym c.field_named.ensures ∙ none)) in
    let fault : c.in_err-field.field-0.0 ≡ BadField =
    ap fault_of (sym c.in_err-field.was ∙ c.ok_or.ensures.value ∙ ap (λ o. ok_or o BadField) none) in
    let p = err_from_is_err_and c.from_residual.result c.from_residual.ensures.1 in
    rw (p.1, p.2, fault) (not_read c.args.known.now c.args.text.now unnamed)

pub loop-name-preserved-then-not-add : goal.loop-name-preserved-then-not-add
loop-name-preserved-then-not-add c =
    subst (λ names. IsRead c.args.known.now names true c.add.new.self) (sym (map_push (λ x. x.now) c.loop-name.yielded c.in-Some.name))
    (read_more c.args.known.now (map (λ x. x.now) c.loop-name.yielded) c.in-Some.name.now c.in_ok-field.field c.loop-name.repeated c.loop-name.keys c.add.new.self
    (sym c.field_named.ensures ∙ c.in_ok-field.ensures.ok_part) c.loop-name.invariant c.add.result true c.add.ensures.new c.add.ensures.fields (sym (ap (λ b. if b then c.loop-name.repeated else true) c.if-not-add.true)))

pub loop-name-preserved : goal.loop-name-preserved
loop-name-preserved c =
    subst (λ names. IsRead c.args.known.now names c.loop-name.repeated c.add.new.self) (sym (map_push (λ x. x.now) c.loop-name.yielded c.in-Some.name))
    (read_more c.args.known.now (map (λ x. x.now) c.loop-name.yielded) c.in-Some.name.now c.in_ok-field.field c.loop-name.repeated c.loop-name.keys c.add.new.self
    (sym c.field_named.ensures ∙ c.in_ok-field.ensures.ok_part) c.loop-name.invariant c.add.result c.loop-name.repeated c.add.ensures.new c.add.ensures.fields (sym (ap (λ b. if b then c.loop-name.repeated else true) c.if-not-add.false)))

pub returns-then-repeated : goal.returns-then-repeated
returns-then-repeated c =
    let all =
    YieldsList-end (YieldsList-from_str_split 44 c.args.text.now (lit< tt) (cc) (cc) (cc))
    c.loop-name.yielded _ c.loop-name.yielded_by _ _ c.in-None.is c.next.ensures.steps in
    subst (λ b. ok_or (if b then None else Some c.loop-name.keys) FieldRepeated ≡ keys_among c.args.known.now c.args.text.now) c.if-repeated.true
    (read_all c.args.known.now c.args.text.now (map (λ x. x.now) c.loop-name.yielded) c.loop-name.repeated c.loop-name.keys all.0 c.loop-name.invariant)

pub returns : goal.returns
returns c =
    let all =
    YieldsList-end (YieldsList-from_str_split 44 c.args.text.now (lit< tt) (cc) (cc) (cc))
    c.loop-name.yielded _ c.loop-name.yielded_by _ _ c.in-None.is c.next.ensures.steps in
    subst (λ b. ok_or (if b then None else Some c.loop-name.keys) FieldRepeated ≡ keys_among c.args.known.now c.args.text.now) c.if-repeated.false
    (read_all c.args.known.now c.args.text.now (map (λ x. x.now) c.loop-name.yielded) c.loop-name.repeated c.loop-name.keys all.0 c.loop-name.invariant)
