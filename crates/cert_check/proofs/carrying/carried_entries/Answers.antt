use Rattle.std.proofs.Common.{◌∙◌, ◌&&◌, ◌||◌, ap, filter, nat_le}
use Rattle.std.proofs.lemmas.List.{take_all}
use Rattle.cert_check.specs.Carried.{covers_whole, is_inside}
use Rattle.cert_check.proofs.Carries.{entries-carried}
use Rattle.cert_check.proofs.carrying.carried_entries.Goals as goal

pub returns : goal.returns
returns c =
    let b = c.args.block.now in
    let g = c.longest_covering-longest.result in
    c.loop-entry.invariant
    ∙ ap (filter (λ e. (covers_whole b e && nat_le g e.block.len) || is_inside b e)) (take_all c.loop-entry.entry-index c.args.entries.now c.loop-entry-test.false)
    ∙ entries-carried b c.args.entries.now g c.longest_covering-longest.ensures
