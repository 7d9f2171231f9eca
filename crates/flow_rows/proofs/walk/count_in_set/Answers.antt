use Rattle.std.proofs.Common.{ap}
use Rattle.std.specs.Prelude.{count_by}
use Rattle.std.specs.List.{flat_map}
use Rattle.flow_rows.specs.Counts.{has_no_bytes}
use Rattle.flow_rows.specs.Elements.{rows_of_record}
use Rattle.flow_rows.proofs.LayoutRows.{no_layout}
use Rattle.flow_rows.proofs.Walking.{empty_of}
use Rattle.flow_rows.proofs.walk.count_in_set.Goals as goal

pub returns-in_default-row_layout : goal.returns-in_default-row_layout
returns-in_default-row_layout c =
    rw c.in-Values.is
    (ap (count_by has_no_bytes)
    (empty_of (flat_map rows_of_record c.in-Values.list)
    (no_layout c.fields-fields.result.now c.in-Values.list c.kind.result c.kind.ensures c.fields-fields.ensures c.in_default-row_layout.ensures)))
