use Rattle.std.proofs.Common.{◌≡◌, ◌&&◌, ◌||◌, filter, nat_le, take}
use Rattle.cert_check.specs.Carried.{covers_whole, is_inside}
use Rattle.cert_check.proofs.carrying.carried_entries.Given as goal

abbrev pub invariant-loop-entry : goal.invariant-loop-entry
invariant-loop-entry l =
    l.kept.items ≡ filter (λ e. (covers_whole l.block e && nat_le l.longest e.block.len) || is_inside l.block e) (take l.entry-index l.entries)
