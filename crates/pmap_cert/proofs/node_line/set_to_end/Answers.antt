use Rattle.std.proofs.Common.{◌∙◌, ◌++◌, ◌≡◌, ◌∷◌, [], ℕ, List, ap, arith, map, sym}
use Rattle.std.proofs.lemmas.List.{map-append}
use Rattle.pmap_model.specs.declared.label.LabelId.{LabelId}
use Rattle.pmap_cert.proofs.LineTexts.{set-ended, set-fallen, set-more, set-stopped}
use Rattle.pmap_cert.proofs.node_line.set_to_end.Goals as goal

abbrev numbers : List LabelId → List ℕ
numbers ids = map (λ (id : LabelId). id.0) ids

pub returns-in-Some : goal.returns-in-Some
returns-in-Some c =
    set-ended c.args.count c.loop-after.low c.args.text.now (numbers c.loop-after.set.items) c.loop-after.rest.now c.loop-after.invariant
    c.in-Some.after.now (sym c.in-Some.ensures)

pub returns-in_default-number_word : goal.returns-in_default-number_word
returns-in_default-number_word c =
    set-stopped c.args.count c.loop-after.low c.args.text.now (numbers c.loop-after.set.items) c.loop-after.rest.now c.loop-after.invariant
    (sym c.in_default.ensures) c.in_default-number_word.ensures

pub returns-then-from-low : goal.returns-then-from-low
returns-then-from-low c =
    let n : ℕ = c.in-Some-number_word.number in
    set-fallen c.args.count c.loop-after.low c.args.text.now (numbers c.loop-after.set.items) c.loop-after.rest.now c.loop-after.invariant
    (sym c.in_default.ensures) n c.in-Some-number_word.after.now c.in-Some-number_word.ensures (omega (arith, c.if-from-low.true, c.from.ensures))

pub loop-after-preserved : goal.loop-after-preserved
loop-after-preserved c =
    let ns : List ℕ = numbers c.loop-after.set.items in
    let n : ℕ = c.in-Some-number_word.number in
    let after : List ℕ = c.in-Some-number_word.after.now in
    let ids : numbers c.push.new.self.items ≡ ns ++ n ∷ [] =
    ap numbers c.in_ok-push.ensures.items ∙ map-append (λ (id : LabelId). id.0) c.loop-after.set.items _ in
    rw (c.from-low.ensures, ids)
    (set-more c.args.count c.loop-after.low c.args.text.now ns c.loop-after.rest.now c.loop-after.invariant (sym c.in_default.ensures)
    n after c.in-Some-number_word.ensures (omega (arith, c.if-from-low.false, c.from.ensures)))
