-- The count is that of the sets before the index, and there is room for those after it.
use Rattle.std.proofs.Common.{◌≡◌, ◌+◌, ◌*◌, ◌≤◌, drop, take}
use Rattle.std.specs.Prelude.{count_by}
use Rattle.ipfix_read.specs.Message.{message_size}
use Rattle.flow_rows.specs.Counts.{has_no_bytes, rows_of_sets}
use Rattle.flow_rows.proofs.walk.count_without_bytes.Given as goal

abbrev pub invariant-loop-set : goal.invariant-loop-set
invariant-loop-set l = record {
  counted : l.count ≡ count_by has_no_bytes (rows_of_sets (take l.set-index l.set-items));
  room : l.count + 2 * message_size (drop l.set-index l.set-items) ≤ 131070;
}
