use Rattle.std.proofs.Common.{◌≡◌, ℕ, ◌&&◌, nat_lt, take}
use Rattle.std.specs.List.{list_any}
use Rattle.cert_check.specs.Carried.{covers_whole}
use Rattle.cert_check.proofs.carrying.longest_covering.Given as goal

abbrev pub invariant-loop-entry : goal.invariant-loop-entry
invariant-loop-entry l = (k : ℕ) → nat_lt k l.longest ≡ list_any (λ e. covers_whole l.block e && nat_lt k e.block.len) (take l.entry-index l.entries)
