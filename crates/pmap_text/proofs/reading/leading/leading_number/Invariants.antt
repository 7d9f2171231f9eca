use Rattle.std.proofs.Common.{◌≡◌, ◌≤◌, ◌<◌, ◌^◌, true, take}
use Rattle.std.specs.List.{list_all}
use Rattle.prefix_keys.specs.Text.{is_digit, decimal_value}
use Rattle.pmap_text.proofs.reading.leading.leading_number.Given as goal

-- the number of the at most three digits so far
abbrev pub invariant-loop-at : goal.invariant-loop-at
invariant-loop-at l = record {
  value : l.number ≡ decimal_value (take l.at l.text);
  digits : list_all is_digit (take l.at l.text) ≡ true;
  small : l.number < 10 ^ l.at;
  short : l.at ≤ 3;
}
