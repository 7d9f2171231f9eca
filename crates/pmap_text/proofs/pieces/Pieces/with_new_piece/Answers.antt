use Rattle.std.proofs.Common.{◌++◌, ◌∙◌, [], ◌∷◌, List, ℕ, ap, flat_map, rules, sym, subst, length, arith}
use Rattle.std.proofs.lemmas.List.{append-nil}
use Rattle.std.proofs.lemmas.List.Concat.{flat_map-append}
use Rattle.std.proofs.lemmas.List.Elements.{All-push}
use Rattle.std.specs.Global.{Vec}
use Rattle.pmap_text.specs.Inner.{AreEnded, EndsLine, text_in}
use Rattle.pmap_text.proofs.pieces.Pieces.with_new_piece.Goals as goal

pub returns : goal.returns
returns c =
    let items : Vec ℕ → List ℕ = λ p. p.items in
    let ended = c.self.inside.ended.items in
    let last = c.self.inside.last in
    ap (text_in c.push.new.self.items) c.in_ok-new_piece.ensures ∙ ap (λ (ps : List (Vec ℕ)). text_in ps []) c.in_ok-push.ensures.items
    ∙ append-nil (flat_map items (ended ++ last ∷ [])) ∙ flat_map-append items ended (last ∷ [])
    ∙ ap (λ (t : List ℕ). flat_map items ended ++ t) (append-nil last.items) ∙ c.self.view_is

pub invariant_of-result : goal.invariant_of-result
invariant_of-result c =
    let found = c.in-Some-eq10-default in
    let feed : EndsLine c.self.inside.last.items =
    (found.field-0-1.now, sym c.deref.ensures.value ∙ found.ensures.cases.0 ∙ ap (λ (b : ℕ). found.field-0-1.now ++ b ∷ []) (search rules)) in (
      subst AreEnded (sym c.in_ok-push.ensures.items)
          (All-push (λ (p : Vec ℕ). EndsLine p.items) c.self.inside.ended.items c.self.inside.last c.self.invariant.0 feed),
      omega (arith, ap length (returns c), ap length c.self.view_is, c.self.invariant.1),
    )
