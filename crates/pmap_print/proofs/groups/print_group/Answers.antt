use Rattle.std.proofs.Common.{ℕ, ◌∙◌, ◌∷◌, ◌++◌, [], List, ap, arith, map, sym}
use Rattle.std.specs.Prelude.{decimal}
use Rattle.std.proofs.lemmas.List.{length-append}
use Rattle.flow_uniq.specs.Codes.{part_model}
use Rattle.flow_uniq.specs.Inner.{key_model}
use Rattle.flow_uniq.specs.Key.{Key}
use Rattle.pmap_print.specs.Reports.{part_text}
use Rattle.pmap_print.specs.Table.{Line, filled_by, line_text}
use Rattle.pmap_print.proofs.FilledLines.{field_printed, totals_printed}
use Rattle.pmap_print.proofs.groups.print_group.Goals as goal

pub loop-part-preserved : goal.loop-part-preserved
loop-part-preserved g c =
    let t = c.args.group.now.totals in
    let totals : Line = decimal t.records ∷ decimal t.packets ∷ decimal t.octets ∷ [] in
    let parts : Key = key_model c.in-Some.parts in
    let more : Line = map part_text parts ++ totals in
    let old : List ℕ = (g.S.Sink.sink c.loop-part.out).printed in
    let so_far = c.loop-part.invariant in
    let pushed = c.in_ok-print_part.ensures in (
      field_printed old _ c.loop-part.rest.now _ _ (part_text (part_model c.in-Some.part)) more (omega (arith, length-append (map part_text parts) totals))
          c.first_width-width.ensures pushed.0
          ∙ ap (λ (key : Key). old ++ line_text (filled_by c.loop-part.rest.now (map part_text key ++ totals))) (sym c.in-Some.ensures.some) ∙ so_far.0,
      pushed.1 ∙ so_far.1,
      λ first h. pushed.2 first (so_far.2 first h),
    )

pub returns : goal.returns
returns g c =
    let old : List ℕ = (g.S.Sink.sink c.loop-part.out).printed in
    let t = c.args.group.now.totals in
    let totals : Line = decimal t.records ∷ decimal t.packets ∷ decimal t.octets ∷ [] in
    let so_far = c.loop-part.invariant in
    let records = c.in_ok-push_number.ensures in
    let packets = c.in_ok-push_total.ensures in
    let octets = c.in_ok-push_total-2.ensures in (
      totals_printed old _ _ _ c.loop-part.rest.now _ _ _ (decimal t.records) (decimal t.packets) (decimal t.octets) c.total_widths-records.ensures
          records.0 packets.0 octets.0
          ∙ ap (λ (key : Key). old ++ line_text (filled_by c.loop-part.rest.now (map part_text key ++ totals))) (sym c.in_default.ensures.none) ∙ so_far.0,
      octets.1 ∙ packets.1 ∙ records.1 ∙ so_far.1,
      λ first h. octets.2 first (packets.2 first (records.2 first (so_far.2 first h))),
    )
