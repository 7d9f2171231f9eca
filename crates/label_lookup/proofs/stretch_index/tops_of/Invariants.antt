use Rattle.std.proofs.Common.{◌≡◌, ℕ, ◌*◌, ◌<◌, ◌≤◌, length}
use Rattle.std.specs.Prelude.{slice_index}
use Rattle.pmap_stretches.specs.Stretches.{first_at}
use Rattle.label_lookup.specs.Labelling.{IsTopAt, block_size}
use Rattle.label_lookup.proofs.stretch_index.tops_of.Given as goal

-- the blocks so far have their tops
abbrev pub invariant-loop-block : goal.invariant-loop-block
invariant-loop-block l = record {
  long : length l.tops.items ≡ l.block;
  below : l.index < length l.stretches.firsts;
  above : first_at l.stretches l.index ≤ l.block * block_size l.stretches;
  each : (b : ℕ) → b < l.block → IsTopAt l.stretches b (slice_index l.tops.items b);
}
