-- The count, with the rows without bytes of the records that are left, is that of all rows.
use Rattle.std.proofs.Common.{◌≡◌, ◌+◌, List, length}
use Rattle.std.specs.Prelude.{count_by}
use Rattle.std.specs.List.{flat_map}
use Rattle.ipfix_read.specs.declared.record.Record.{Record}
use Rattle.flow_rows.specs.Counts.{has_no_bytes}
use Rattle.flow_rows.specs.Elements.{rows_of_record}
use Rattle.flow_rows.proofs.EqualRecords.{AreEqual}
use Rattle.flow_rows.proofs.walk.count_in_equal.Given as goal

abbrev pub invariant-loop-index : goal.invariant-loop-index
invariant-loop-index l =
    (records : List Record) × AreEqual l.layout l.length l.rest records × (l._index + length records ≡ length l.records)
    × (l.count + count_by has_no_bytes (flat_map rows_of_record records) ≡ count_by has_no_bytes (flat_map rows_of_record l.records))
