use Rattle.std.proofs.Common.{ℕ, ◌≡◌, ◌+◌, ◌-◌, ◌∙◌, ◌∷◌, List, ap, arith, drop, length}
use Rattle.std.specs.Fmt.{decimal}
use Rattle.std.proofs.lemmas.Fmt.{length-decimal-le}
use Rattle.std.proofs.lemmas.List.{drop-set}
use Rattle.pmap_print.specs.Table.{mark_byte}
use Rattle.pmap_print.proofs.Appended.{short}
use Rattle.pmap_print.proofs.fields.write_number.Goals as goal

pub write_digits-start-requires : goal.write_digits-start-requires
write_digits-start-requires c = (omega (arith, short c.args.number (omega (arith, c.ranges.number.fits)), c.requires.room), c.requires.within)

pub of-requires : goal.of-requires
of-requires c = omega (arith, short c.args.number (omega (arith, c.ranges.number.fits)), c.write_digits-start.ensures.start)

pub overflow_sub-line : goal.overflow_sub-line
overflow_sub-line c = omega (arith, short c.args.number (omega (arith, c.ranges.number.fits)), c.write_digits-start.ensures.start, c.requires.room)

pub overflow_sub-result : goal.overflow_sub-result
overflow_sub-result c = omega (arith, short c.args.number (omega (arith, c.ranges.number.fits)), c.write_digits-start.ensures.start, c.requires.room)

pub returns-clause-size : goal.returns-clause-size
returns-clause-size c = omega (arith, short c.args.number (omega (arith, c.ranges.number.fits)), c.write_digits-start.ensures.start, c.requires.room)

pub returns-clause-room : goal.returns-clause-room
returns-clause-room c = omega (arith, short c.args.number (omega (arith, c.ranges.number.fits)), c.write_digits-start.ensures.start)

pub returns-clause-small : goal.returns-clause-small
returns-clause-small c = λ small.
    omega (arith, length-decimal-le 5 c.args.number (omega arith) (omega (arith, small)) (omega (arith, small)), c.write_digits-start.ensures.start)

pub returns-clause-written : goal.returns-clause-written
returns-clause-written c =
    let buf : List ℕ = c.write_digits-start.new.buf in
    let r : ℕ = c.write_digits-start.result in
    let size = c.write_digits-start.ensures.start in
    let short = short c.args.number (omega (arith, c.ranges.number.fits)) in
    let len : c.args.end - r ≡ length (decimal c.args.number) = omega (arith, size) in
    let next : r - 1 + 1 ≡ r = omega (arith, size, short, c.requires.room) in
    drop-set buf (r - 1) c.of.result (omega (arith, size, short, c.requires.room, c.requires.within, c.write_digits-start.auto.buf))
    ∙ ap (λ k. c.of.result ∷ drop k buf) next
    ∙ (λ i. (c.of.ensures ∙ ap (mark_byte c.args.mark) len) i ∷ c.write_digits-start.ensures.written i)
