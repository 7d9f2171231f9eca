use Rattle.std.proofs.Common.{◌≡◌, ◌∙◌, ◌∷◌, ◌++◌, List, ℕ, ap, append_assoc, nat_lt, refl, subst, sym}
use Rattle.std.specs.Fmt.{decimal}
use Rattle.std.specs.List.{flat_map}
use Rattle.std.proofs.lemmas.List.Concat.{flat_map-append}
use Rattle.flow_io.specs.Sinks.{Pushes}
use Rattle.pmap_text.proofs.Places.{place_from_position, position_or_len-le}
use Rattle.pmap_cert.specs.Opened.{numbers_of, with_number}
use Rattle.pmap_cert.specs.Sinks.{adds-then}
use Rattle.pmap_cert.proofs.OpenedTexts.{with-at}
use Rattle.pmap_cert.proofs.Printed.{printed-then}
use Rattle.pmap_cert.proofs.opened.push_set_with.Goals as goal

abbrev words : List ℕ → List ℕ
words ns = flat_map (λ n. 32 ∷ decimal n) ns

pub split_at-requires : goal.split_at-requires
split_at-requires g c =
    rw (c.unwrap_or-index.ensures, place_from_position (λ id. nat_lt c.args.side.0 id.0) c.args.set.now c.find_after.result c.find_after.ensures)
    (position_or_len-le (λ id. nat_lt c.args.side.0 id.0) c.args.set.now)

pub returns : goal.returns
returns g c =
    let side = c.args.side.0 in
    let set = c.args.set.now in
    let index = place_from_position (λ id. nat_lt side id.0) set c.find_after.result c.find_after.ensures in
    let before = numbers_of c.split_at.result.0.now in
    let after = numbers_of c.split_at.result.1.now in
    let text : words (with_number side (numbers_of set)) ≡ (words before ++ 32 ∷ decimal side) ++ words after =
    ap words (with-at side set ∙ rw (c.split_at.ensures.front, c.split_at.ensures.back, c.unwrap_or-index.ensures, index) refl) ∙ flat_map-append (λ n. 32 ∷ decimal n) before (side ∷ after)
    ∙ sym (append_assoc (words before) (32 ∷ decimal side) (words after)) in
    subst (λ (t : List ℕ). Pushes g.S.Sink.sink g.S.Sink.began c.args.out.now c.push_set-2.new.out t c.push_set-2.result) (sym text)
    (printed-then g.S.Sink.sink g.S.Sink.began c.args.out.now c.push_number.new.out c.push_set-2.new.out (words before ++ 32 ∷ decimal side) (words after) c.push_set-2.result
    (adds-then g.S.Sink.sink g.S.Sink.began c.args.out.now c.push_set.new.out c.push_number.new.out (words before) (32 ∷ decimal side) c.in_ok-push_set.ensures c.in_ok-push_number.ensures)
    c.push_set-2.ensures)
