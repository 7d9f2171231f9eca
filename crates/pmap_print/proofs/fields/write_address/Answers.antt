use Rattle.std.proofs.Common.{ℕ, ◌≡◌, ◌+◌, ◌-◌, ◌∙◌, ◌∷◌, List, ap, arith, drop, length}
use Rattle.std.proofs.lemmas.List.{drop-set, length-append, length-drop}
use Rattle.prefix_keys.specs.Print.{address_text}
use Rattle.pmap_print.specs.Table.{mark_byte}
use Rattle.pmap_print.proofs.fields.write_address.Goals as goal
use Rattle.pmap_print.proofs.fields.write_address.Goals.{After-write_addr-start}

-- the address takes the bytes up to the end
size : (c : After-write_addr-start) → c.args.end ≡ c.write_addr-start.result + length (address_text c.args.addr.version c.args.addr.value)
size c =
    let text : List ℕ = address_text c.args.addr.version c.args.addr.value in
    omega (
      arith,
      ap length c.write_addr-start.ensures.written,
      length-drop c.write_addr-start.result c.write_addr-start.new.buf,
      length-append text (drop c.args.end c.args.line.now),
      length-drop c.args.end c.args.line.now,
      c.write_addr-start.auto.buf,
      c.write_addr-start.ensures.start,
      c.requires.within,
    )

pub returns-clause-size : goal.returns-clause-size
returns-clause-size c = omega (arith, size (goal.at.returns-clause-size c).After-write_addr-start, c.write_addr-start.ensures.room, c.requires.room)

pub returns-clause-written : goal.returns-clause-written
returns-clause-written c =
    let buf : List ℕ = c.write_addr-start.new.buf in
    let r : ℕ = c.write_addr-start.result in
    let len : c.args.end - r ≡ length (address_text c.args.addr.version c.args.addr.value) =
    omega (arith, size (goal.at.returns-clause-written c).After-write_addr-start) in
    let next : r - 1 + 1 ≡ r = omega (arith, c.write_addr-start.ensures.room, c.requires.room) in
    drop-set buf (r - 1) c.of.result
    (omega (arith, c.write_addr-start.ensures.start, c.write_addr-start.ensures.room, c.requires.room, c.requires.within, c.write_addr-start.auto.buf))
    ∙ ap (λ k. c.of.result ∷ drop k buf) next
    ∙ (λ i. (c.of.ensures ∙ ap (mark_byte c.args.mark) len) i ∷ c.write_addr-start.ensures.written i)
