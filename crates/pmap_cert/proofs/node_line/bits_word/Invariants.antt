use Rattle.std.proofs.Common.{◌≡◌, ◌==◌, ◌≤◌, true, map, take}
use Rattle.std.specs.List.{list_all}
use Rattle.pmap_cert.specs.Inner.{is_bit}
use Rattle.pmap_cert.specs.Paths.{path_to}
use Rattle.pmap_cert.proofs.node_line.bits_word.Given as goal

-- the bits so far are those of the digits so far
abbrev pub invariant-loop-at : goal.invariant-loop-at
invariant-loop-at l = record {
  bits : path_to l.path.0 l.path.1.0 ≡ map (λ d. d == 49) (take l.at l.digits);
  digits : list_all is_bit (take l.at l.digits) ≡ true;
  few : l.at ≤ l.most;
  count : l.path.1.0 ≡ l.at;
}
