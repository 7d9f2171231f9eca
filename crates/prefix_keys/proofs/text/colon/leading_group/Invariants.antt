use Rattle.std.proofs.Common.{◌≡◌, ◌+◌, ◌*◌, fold, ◌≤◌, ◌<◌, ◌^◌, true, take}
use Rattle.std.specs.List.{list_all}
use Rattle.std.specs.Char.{is_ascii_hexdigit}
use Rattle.prefix_keys.specs.Text.{hex_digit_value}
use Rattle.prefix_keys.proofs.text.colon.leading_group.Given as goal

-- the number of the at most four digits so far
abbrev pub invariant-loop-at : goal.invariant-loop-at
invariant-loop-at l = record {
  value : l.group ≡ fold (λ n b. n * 16 + hex_digit_value b) 0 (take l.at l.text);
  digits : list_all is_ascii_hexdigit (take l.at l.text) ≡ true;
  small : l.group < 16 ^ l.at;
  short : l.at ≤ 4;
}
