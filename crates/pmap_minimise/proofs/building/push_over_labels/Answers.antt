use Rattle.std.proofs.Common.{◌≡◌, ◌+◌, ◌^◌, ◌||◌, ◌∷◌, [], Bool, false, ℕ, List, arith, ap, cond, refl, subst, sym}
use Rattle.std.proofs.lemmas.Bool.{eq-eqb, ne_eqb}
use Rattle.std.proofs.lemmas.Result.{on_ok_weaker}
use Rattle.pmap_cert.specs.CertificateText.{IsAscending}
use Rattle.pmap_cert.specs.Node.{claiming}
use Rattle.pmap_minimise.specs.Numbers.{IsExact, IsExactBy, IsUnion}
use Rattle.pmap_minimise.proofs.building.push_over_labels.Goals as goal

one-exact : (low high x y : ℕ) → x ≡ y → IsExact (claiming low (x ∷ [])) (claiming high (y ∷ [])) (claiming (low + high) (x ∷ []))
one-exact low high x y same =
    subst (λ (ns : List ℕ). IsExactBy (claiming low (x ∷ [])) (claiming high (y ∷ [])) ns (claiming (low + high) (x ∷ [])))
    (sym (ap (λ (b : Bool). cond (b || false) (x ∷ []) []) (eq-eqb x y same))) (refl, refl)

two-exact : (low high x y : ℕ) (set : List ℕ) → (x ≡ y → ⊥) → IsUnion (x ∷ []) (y ∷ []) set → IsAscending (2 ^ 32) 0 set
    → IsExact (claiming low (x ∷ [])) (claiming high (y ∷ [])) (claiming (low + high + 1) set)
two-exact low high x y set other union ascending =
    subst (λ (ns : List ℕ). IsExactBy (claiming low (x ∷ [])) (claiming high (y ∷ [])) ns (claiming (low + high + 1) set))
    (sym (ap (λ (b : Bool). cond (b || false) (x ∷ []) []) (ne_eqb x y other))) (refl, union, ascending)

in-order : (p q : Bool) → (p || (q || false)) ≡ ((p || false) || (q || false))
in-order p q = grind arith

out-of-order : (p q : Bool) → (q || (p || false)) ≡ ((p || false) || (q || false))
out-of-order p q = grind arith

pub returns-then-x-y : goal.returns-then-x-y
returns-then-x-y c =
    on_ok_weaker c.push.result (λ pushed. record {
      claim = claiming (c.args.low.0 + c.args.high.0) (c.args.low.1.0 ∷ []);
      exact = one-exact c.args.low.0 c.args.high.0 c.args.low.1.0 c.args.high.1.0 c.if-x-y.true;
      lines_are = pushed;
    }) c.push.ensures.ok

pub returns-then-x-y-2 : goal.returns-then-x-y-2
returns-then-x-y-2 c =
    let x = c.args.low.1.0 in
    let y = c.args.high.1.0 in
    on_ok_weaker c.push-then-x-y-2.result (λ pushed. record {
      claim = claiming (c.args.low.0 + c.args.high.0 + 1) (x ∷ y ∷ []);
      exact = two-exact c.args.low.0 c.args.high.0 x y (x ∷ y ∷ []) c.if-x-y.false (λ p. in-order (p x) (p y)) (omega arith, omega arith, (omega (arith, c.if-x-y-2.true), omega arith, tt));
      lines_are = pushed;
    }) c.push-then-x-y-2.ensures.ok

pub returns : goal.returns
returns c =
    let x = c.args.low.1.0 in
    let y = c.args.high.1.0 in
    on_ok_weaker c.push-2.result (λ pushed. record {
      claim = claiming (c.args.low.0 + c.args.high.0 + 1) (y ∷ x ∷ []);
      exact = two-exact c.args.low.0 c.args.high.0 x y (y ∷ x ∷ []) c.if-x-y.false (λ p. out-of-order (p x) (p y)) (omega arith, omega arith, (omega (arith, c.if-x-y.false, c.if-x-y-2.false), omega arith, tt));
      lines_are = pushed;
    }) c.push-2.ensures.ok
