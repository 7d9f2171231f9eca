use Rattle.std.proofs.Common.{◌≡◌, ◌≤◌, ◌<◌, ◌^◌, true, take, length}
use Rattle.std.specs.List.{list_all}
use Rattle.prefix_keys.specs.Text.{is_digit, decimal_value}
use Rattle.prefix_keys.proofs.decimal.read_decimal.Given as goal

-- the number of the digits so far
abbrev pub invariant-loop-b : goal.invariant-loop-b
invariant-loop-b l = record {
  value : l.number ≡ decimal_value (take l.b-index l.text);
  digits : list_all is_digit (take l.b-index l.text) ≡ true;
  small : l.number < 10 ^ l.b-index;
  short : length l.text ≤ l.digits;
  some : 1 ≤ length l.text;
}
