use Rattle.std.proofs.Common.{◌≡◌, ◌+◌, ◌*◌, fold, ◌≤◌, ◌<◌, ◌^◌, true, take, length}
use Rattle.std.specs.List.{list_all}
use Rattle.std.specs.Char.{is_ascii_hexdigit}
use Rattle.prefix_keys.specs.Text.{hex_digit_value}
use Rattle.prefix_keys.proofs.text.colon.read_group.Given as goal

-- the number of the digits so far
abbrev pub invariant-loop-b : goal.invariant-loop-b
invariant-loop-b l = record {
  value : l.group ≡ fold (λ n b. n * 16 + hex_digit_value b) 0 (take l.b-index l.text);
  digits : list_all is_ascii_hexdigit (take l.b-index l.text) ≡ true;
  small : l.group < 16 ^ l.b-index;
  short : length l.text ≤ 4;
  some : 1 ≤ length l.text;
}
