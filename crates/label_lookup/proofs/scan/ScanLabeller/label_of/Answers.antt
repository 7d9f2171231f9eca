use Rattle.std.proofs.Common.{◌≡◌, ◌∙◌, ◌+◌, ◌-◌, ap, subst, arith, get_or, sym, Some, refl}
use Rattle.std.proofs.lemmas.Option.{get_or_from_slice_get}
use Rattle.pmap_model.specs.MapModel.{MapModel, map_label}
use Rattle.label_lookup.proofs.Scanned.{IsLeft, by_default, covering, found, passed_over}
use Rattle.label_lookup.proofs.scan.ScanLabeller.label_of.Goals as goal

pub returns-then-covers-clause-value : goal.returns-then-covers-clause-value
returns-then-covers-clause-value c =
    let m = c.self.inside.map.now in
    let a = c.args.addr.value in
    let left = c.loop-left.left in
    let s = c.at-statement.result in
    let next : left - 1 + 1 ≡ left = omega (arith, c.loop-left-test.true) in
    let is : s ≡ get_or m.statements (left - 1) s = sym (get_or_from_slice_get m.statements (left - 1) s s c.at-statement.ensures) in
    let version = c.requires ∙ sym (ap (λ (t : MapModel). t.version) c.self.view_is) in
    let covers = covering m a (left - 1) left next c.loop-left.invariant s is c.args.addr refl version c.covers.result c.covers.ensures in
    c.text.ensures.value
    ∙ found m a (left - 1) left next c.loop-left.invariant s is (covers ∙ c.if-covers.true)
    ∙ ap (λ (t : MapModel). Some (map_label t a)) c.self.view_is

pub loop-left-preserved : goal.loop-left-preserved
loop-left-preserved c =
    let m = c.self.inside.map.now in
    let a = c.args.addr.value in
    let left = c.loop-left.left in
    let s = c.at-statement.result in
    let next : left - 1 + 1 ≡ left = omega (arith, c.loop-left-test.true) in
    let is : s ≡ get_or m.statements (left - 1) s = sym (get_or_from_slice_get m.statements (left - 1) s s c.at-statement.ensures) in
    let version = c.requires ∙ sym (ap (λ (t : MapModel). t.version) c.self.view_is) in
    let covers = covering m a (left - 1) left next c.loop-left.invariant s is c.args.addr refl version c.covers.result c.covers.ensures in
    passed_over m a (left - 1) left next c.loop-left.invariant s is (covers ∙ c.if-covers.false)

pub returns-clause-value : goal.returns-clause-value
returns-clause-value c =
    let m = c.self.inside.map.now in
    let a = c.args.addr.value in
    let none = subst (IsLeft m a) (omega (arith, c.loop-left-test.false)) c.loop-left.invariant in
    c.text-2.ensures.value ∙ by_default m a none ∙ ap (λ (t : MapModel). Some (map_label t a)) c.self.view_is
