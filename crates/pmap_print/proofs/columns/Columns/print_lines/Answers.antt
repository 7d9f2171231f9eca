use Rattle.std.proofs.Common.{◌<◌, ◌∙◌, length, refl, rules}
use Rattle.pmap_print.specs.Table.{column_width}
use Rattle.pmap_print.proofs.PaddedLines.{all_lines, first_line, fit}
use Rattle.pmap_print.proofs.columns.Columns.print_lines.Goals as goal

pub loop-rest-init : goal.loop-rest-init
loop-rest-init g c =
    (λ count lines are is. record { lines = lines; fit = fit count lines _ are; back = is; front = refl }, refl, λ first h. h)

pub print_line-requires : goal.print_line-requires
print_line-requires g c =
    let (count, lines, are, is) = c.requires in
    let some : 0 < length c.loop-rest.rest.now = search rules in
    let first = first_line _ _ _ _ _ (c.loop-rest.invariant.0 count lines are is) some in
    (column_width lines, first.fields, first.more, first.fit, first.is)

pub loop-rest-smaller : goal.loop-rest-smaller
loop-rest-smaller g c =
    let (count, lines, are, is) = c.requires in
    let some : 0 < length c.loop-rest.rest.now = search rules in
    let first = first_line _ _ _ _ _ (c.loop-rest.invariant.0 count lines are is) some in
    let done = c.in_ok-rest.ensures (column_width lines) first.fields first.more first.fit first.is in
    (first.printed _ _ done.0 done.1.0).1

pub loop-rest-preserved : goal.loop-rest-preserved
loop-rest-preserved g c =
    let (count, lines, are, is) = c.requires in
    let some : 0 < length c.loop-rest.rest.now = search rules in
    let first = first_line _ _ _ _ _ (c.loop-rest.invariant.0 count lines are is) some in
    let done = c.in_ok-rest.ensures (column_width lines) first.fields first.more first.fit first.is in (
      λ count lines are is.
          let first = first_line _ _ _ _ _ (c.loop-rest.invariant.0 count lines are is) some in
          let done = c.in_ok-rest.ensures (column_width lines) first.fields first.more first.fit first.is in
          (first.printed _ _ done.0 done.1.0).0,
      done.1.1 ∙ c.loop-rest.invariant.1,
      λ first h. done.1.2 first (c.loop-rest.invariant.2 first h),
    )

pub returns : goal.returns
returns g c = λ count lines are is. (
  all_lines _ _ _ _ _ (c.loop-rest.invariant.0 count lines are is) (search rules),
  c.loop-rest.invariant.1,
  c.loop-rest.invariant.2,
)
