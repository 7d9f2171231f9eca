use Rattle.std.proofs.Common.{◌≡◌, ◌==◌, ◌&&◌, false, take}
use Rattle.std.specs.List.{list_any}
use Rattle.pmap_text.proofs.reading.repeats.has_block.Given as goal

abbrev pub invariant-loop-place : goal.invariant-loop-place
invariant-loop-place l = list_any (λ e. e.block.value == l.block.value && e.block.len == l.block.len) (take l.place l.entries) ≡ false
