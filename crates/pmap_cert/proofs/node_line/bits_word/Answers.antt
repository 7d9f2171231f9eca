use Rattle.std.proofs.Common.{ℕ, List, get_or, inl, inr, sym, arith}
use Rattle.std.proofs.lemmas.List.{take_rest}
use Rattle.pmap_cert.specs.Paths.{path_to}
use Rattle.pmap_cert.proofs.LineTexts.{a_bit, after_byte-found, bits-many, bits-nothing, bits-read, no_bit}
use Rattle.pmap_cert.proofs.node_line.bits_word.Goals as goal
use Rattle.pmap_cert.proofs.node_line.bits_word.Goals.{else-at-eq0, else-byte-ne48-via-else-byte-ne48, else-byte-ne48-via-then-byte-ne48+else-byte-ne49, then-at-eq0}

pub returns-then-byte-ne49 : goal.returns-then-byte-ne49
returns-then-byte-ne49 c =
    let most : ℕ = c.args.most in
    let text : List ℕ = c.args.text.now in
    let digits : List ℕ = c.in_ok-digits.digits.now in
    let at : ℕ = c.loop-at.at in
    let space = after_byte-found 32 text digits (sym c.in_ok-digits.ensures) in
    let other = no_bit (get_or digits at 0) c.if-byte-ne48.true c.if-byte-ne49.true in
    elim c.if-at-eq0.branch [
      | then-at-eq0 w ↦ rw w.result-is (bits-nothing most text digits space at c.loop-at.invariant.digits c.loop-at-test.true other w.if-at-eq0.true)
      | else-at-eq0 w ↦
          rw w.result-is (rw take_rest
          (bits-read most text digits space at c.loop-at.invariant.digits c.loop-at-test.true other (path_to c.loop-at.path.0 c.loop-at.path.1.0) c.loop-at.invariant.bits
          (omega (arith, w.if-at-eq0.false)) c.loop-at.invariant.few))
    ]

pub returns-then-at-most : goal.returns-then-at-most
returns-then-at-most c =
    let digits : List ℕ = c.in_ok-digits.digits.now in
    let at : ℕ = c.loop-at.at in
    let space = after_byte-found 32 c.args.text.now digits (sym c.in_ok-digits.ensures) in
    bits-many c.args.most c.args.text.now digits space at c.loop-at.invariant.digits c.loop-at-test.true c.if-at-most.true
    (a_bit (get_or digits at 0)
    (elim c.else-byte-ne48.branch [
      | else-byte-ne48-via-then-byte-ne48+else-byte-ne49 w ↦ inr w.if-byte-ne49.false
      | else-byte-ne48-via-else-byte-ne48 w ↦ inl w.if-byte-ne48.false
    ]))
