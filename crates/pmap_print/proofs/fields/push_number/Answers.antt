use Rattle.std.proofs.Common.{ℕ, ◌∙◌, ◌++◌, ◌∷◌, [], List, ap, append_assoc, arith, replicate, sym}
use Rattle.std.specs.Fmt.{decimal}
use Rattle.std.proofs.lemmas.List.{length-append}
use Rattle.pmap_print.proofs.Appended.{field_front, filled_printed, short}
use Rattle.pmap_print.proofs.fields.push_number.Goals as goal

pub write_digits-start-requires : goal.write_digits-start-requires
write_digits-start-requires g c = (omega (arith, short c.args.number (omega (arith, c.ranges.number.fits))), omega arith)

pub returns : goal.returns
returns g c =
    let text : List ℕ = decimal c.args.number in
    let size = c.write_digits-start.ensures.start in
    let spaces = c.in_ok-push_spaces.ensures in
    let pushed = c.in_ok-push_start.ensures in
    let end : List ℕ = c.args.end ∷ [] in (
      filled_printed _ _ _ text c.args.width _ c.args.end (omega (arith, size)) spaces.0
          (pushed.0 ∙ ap (λ (l : List ℕ). (g.S.Sink.sink c.push_spaces.new.out).printed ++ l)
          (field_front c.write_digits-start.new.buf (text ++ end) _ c.write_digits-start.result _ _
          (c.write_digits-start.ensures.written ∙ sym (append_assoc text end (replicate 24 c.args.end)))
          (omega (arith, size, length-append text end)) (omega (arith, size)))),
      pushed.1 ∙ spaces.1,
      λ first h. pushed.2 first (spaces.2 first h),
    )
