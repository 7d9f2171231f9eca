use Rattle.std.proofs.Common.{List, map, take}
use Rattle.pmap_text.proofs.Filed.{AreFiled}
use Rattle.pmap_model.specs.MapModel.{Label}
use Rattle.pmap_model.specs.PrefixList.{prefix_of}
use Rattle.pmap_text.proofs.reading.repeats.find_repeat.Given as goal

-- the keys are those of the entries so far, no two of which have the same block
abbrev pub invariant-loop-place : goal.invariant-loop-place
invariant-loop-place l = (table : List Label) → AreFiled (map (prefix_of table) (take l.place l.entries)) l.keys.keys
