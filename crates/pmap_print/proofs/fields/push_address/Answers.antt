use Rattle.std.proofs.Common.{ℕ, ◌≡◌, ◌+◌, ◌∙◌, ◌++◌, ◌∷◌, [], List, ap, append_assoc, arith, length, replicate, sym}
use Rattle.std.proofs.lemmas.List.{length-append, length-drop}
use Rattle.prefix_keys.specs.Print.{address_text}
use Rattle.pmap_print.proofs.Appended.{field_front, filled_printed}
use Rattle.pmap_print.proofs.fields.push_address.Goals as goal

pub returns : goal.returns
returns g c =
    let text : List ℕ = address_text c.args.addr.version c.args.addr.value in
    let start : ℕ = c.write_addr-start.result in
    let buf : List ℕ = c.write_addr-start.new.buf in
    let written = c.write_addr-start.ensures.written in
    let size : start + length text ≡ 47 =
    omega (arith, ap length written, length-drop start buf, length-append text (replicate 49 c.args.end), c.write_addr-start.auto.buf, c.write_addr-start.ensures.start) in
    let spaces = c.in_ok-push_spaces.ensures in
    let pushed = c.in_ok-push_start.ensures in
    let end : List ℕ = c.args.end ∷ [] in (
      filled_printed _ _ _ text c.args.width _ c.args.end (omega (arith, size)) spaces.0
          (pushed.0 ∙ ap (λ (l : List ℕ). (g.S.Sink.sink c.push_spaces.new.out).printed ++ l)
          (field_front buf (text ++ end) _ start _ _ (written ∙ sym (append_assoc text end (replicate 48 c.args.end)))
          (omega (arith, size, length-append text end)) (omega (arith, size)))),
      pushed.1 ∙ spaces.1,
      λ first h. pushed.2 first (spaces.2 first h),
    )
