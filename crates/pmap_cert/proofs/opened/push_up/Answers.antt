use Rattle.std.proofs.Common.{◌≡◌, ◌+◌, ◌%◌, ◌==◌, ◌++◌, ◌∷◌, [], ℕ, List, suc, if◌then◌else◌, arith, refl, sym}
use Rattle.std.proofs.lemmas.Bool.{ne_eqb}
use Rattle.std.proofs.lemmas.List.{append-nil}
use Rattle.pmap_cert.specs.CertificateText.{LeafLine, node_line_text}
use Rattle.pmap_cert.specs.Opened.{text_up}
use Rattle.pmap_cert.specs.Sinks.{adds-then}
use Rattle.pmap_cert.proofs.Paths.{digits-left}
use Rattle.pmap_cert.proofs.opened.push_up.Goals as goal
use Rattle.pmap_cert.proofs.opened.push_up.Goals.{then-rest-eq0+in_ok-push_start, else-rest-eq0}

pub loop-place-preserved : goal.loop-place-preserved
loop-place-preserved g c =
    let side = c.args.chain.now.side.0 in
    let value = c.args.chain.now.value in
    let place = c.loop-place.place in
    let next : place + 1 ≡ suc place = omega arith in
    let before : List ℕ = text_up side value place in
    let line : List ℕ = node_line_text (LeafLine side) ++ 10 ∷ [] in
    let up : text_up side value (place + 1) ≡ before ++ (if c.loop-place.rest % 2 == 0 then line else []) =
    rw (next, sym c.loop-place.invariant.rest) refl in
    record {
      rest = digits-left value c.loop-place.rest place c.loop-place.invariant.rest;
      is = elim c.if-rest-eq0.branch [
        | then-rest-eq0+in_ok-push_start w ↦ rw (up, w.if-rest-eq0.true, w.out-is)
            (adds-then g.S.Sink.sink g.S.Sink.began c.args.out.now c.loop-place.out w.push_start.new.self before line c.loop-place.invariant.is (rw c.args.chain.now.leaf_is at w.in_ok-push_start.ensures))
        | else-rest-eq0 w ↦ rw (up, ne_eqb (c.loop-place.rest % 2) 0 w.if-rest-eq0.false, w.out-is, append-nil before) c.loop-place.invariant.is
      ];
    }
