use Rattle.std.proofs.Common.{◌≡◌, ◌+◌, ◌-◌, ◌≤◌, ◌++◌, length, nat_eq}
use Rattle.pmap_cert.specs.Paths.{path_to}
use Rattle.pmap_cert.specs.Compacting.{spine_bits, spine_end}
use Rattle.pmap_cert.specs.Inner.{HasPlace, node_from}
use Rattle.pmap_cert.proofs.compacting.go_down.Given as goal

-- the spine from the first line is the bits so far and then the spine from line `number`
abbrev pub invariant-loop-bit : goal.invariant-loop-bit
invariant-loop-bit l = record {
  spine : spine_bits nat_eq l.side.0 (node_from l.nodes l.first) ≡ path_to l.path.0 l.path.1.0 ++ spine_bits nat_eq l.side.0 (node_from l.nodes l.number);
  end : spine_end nat_eq l.side.0 (node_from l.nodes l.first) ≡ spine_end nat_eq l.side.0 (node_from l.nodes l.number);
  place : HasPlace l.nodes l.ends l.number;
  after : l.first + length (path_to l.path.0 l.path.1.0) ≤ l.number;
  few : l.path.1.0 + length (spine_bits nat_eq l.side.0 (node_from l.nodes l.number)) ≤ 128;
}

abbrev pub decreases-loop-bit : goal.decreases-loop-bit
decreases-loop-bit l = length l.nodes - l.number
