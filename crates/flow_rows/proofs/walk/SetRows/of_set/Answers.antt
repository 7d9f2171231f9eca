use Rattle.std.specs.List.{flat_map}
use Rattle.flow_rows.specs.Elements.{rows_of_record}
use Rattle.flow_rows.proofs.LayoutRows.{no_layout}
use Rattle.flow_rows.proofs.Walking.{empty_of}
use Rattle.flow_rows.proofs.walk.SetRows.of_set.Goals as goal

pub returns-in_err-row_layout-clause-rows : goal.returns-in_err-row_layout-clause-rows
returns-in_err-row_layout-clause-rows c =
    rw (c.from_residual.ensures, c.in-Values.is)
    (empty_of (flat_map rows_of_record c.in-Values.list)
    (no_layout c.fields-fields.result.now c.in-Values.list c.kind.result c.kind.ensures c.fields-fields.ensures c.in_err-row_layout.ensures))
