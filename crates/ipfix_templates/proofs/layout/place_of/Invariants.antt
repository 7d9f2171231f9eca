-- The place among all fields is that among the fields that are left.
use Rattle.std.proofs.Common.{◌≡◌, ◌*◌, ◌≤◌, drop}
use Rattle.ipfix_templates.specs.Layout.{place_of_element}
use Rattle.ipfix_templates.proofs.layout.place_of.Given as goal

abbrev pub invariant-loop-field : goal.invariant-loop-field
invariant-loop-field l = record {
  place : place_of_element l.direction l.number l.skips l.offset (drop l.field-index l.fields) ≡ place_of_element l.direction l.number 0 0 l.fields;
  skips : l.skips ≤ l.field-index;
  offset : l.offset ≤ 65534 * l.field-index;
}
