use Rattle.std.proofs.Common.{◌≡◌, true, take}
use Rattle.std.specs.List.{list_all}
use Rattle.prefix_keys.specs.Text.{is_digit, decimal_value}
use Rattle.pmap_cert.proofs.node_line.number_word.Given as goal

-- the number so far is the value of the digits so far
abbrev pub invariant-loop-at : goal.invariant-loop-at
invariant-loop-at l = record {
  value : l.number ≡ decimal_value (take l.at l.digits);
  digits : list_all is_digit (take l.at l.digits) ≡ true;
}
