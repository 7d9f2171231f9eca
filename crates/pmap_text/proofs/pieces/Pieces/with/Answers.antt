use Rattle.std.proofs.Common.{◌≡◌, ◌+◌, ◌++◌, ◌∙◌, List, ℕ, IfOk, ap, ap₂, drop, subst, take}
use Rattle.std.proofs.lemmas.List.{append_assoc, take-append-drop}
use Rattle.pmap_text.proofs.pieces.Pieces.with.Goals as goal

pub returns-clause-text : goal.returns-clause-text
returns-clause-text c =
    let end : ℕ = c.in-Some.feed + 1 in
    let bytes : List ℕ = c.args.bytes.now in
    let front = c.in_ok-with_new_piece.ensures ∙ c.in_ok-extended.ensures.text ∙ ap (λ (t : List ℕ). c.args.self ++ t) c.split_at.ensures.front in
    let whole : c.in_ok-with_new_piece.field-0 ++ c.split_at.result.1.now ≡ c.args.self ++ bytes =
    ap₂ (λ (s t : List ℕ). s ++ t) front c.split_at.ensures.back ∙ append_assoc c.args.self (take end bytes) (drop end bytes)
    ∙ ap (λ (t : List ℕ). c.args.self ++ t) (take-append-drop end bytes) in
    subst (λ (t : List ℕ). IfOk c.extended-3.result (λ text. text ≡ t)) whole c.extended-3.ensures.text
