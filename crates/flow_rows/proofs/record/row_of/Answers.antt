use Rattle.std.proofs.Common.{◌∙◌, Some, ap, refl, rules}
use Rattle.flow_rows.specs.Elements.{RowView}
use Rattle.flow_rows.proofs.LayoutRows.{row_found, row_missing, usable}
use Rattle.flow_rows.proofs.record.row_of.Goals as goal

pub returns-in_err-layout : goal.returns-in_err-layout
returns-in_err-layout c =
    let missing =
    (row_missing c.args.source.now c.args.source.now.kind refl c.specifiers-fields.result.now _ c.bytes-bytes.result.now
    c.specifiers-fields.ensures refl c.bytes-bytes.ensures c.in_err-layout.ensures).0 in
    search rules

pub new-requires : goal.new-requires
new-requires c =
    (usable c.args.source.now c.args.source.now.kind refl c.specifiers-fields.result.now _ c.bytes-bytes.result.now
    c.specifiers-fields.ensures refl c.bytes-bytes.ensures c.in_ok-layout.layout.now c.in_ok-layout.ensures).0

pub returns : goal.returns
returns c =
    ap (λ (row : RowView). Some row) c.new.ensures
    ∙ row_found c.args.source.now c.args.source.now.kind refl c.specifiers-fields.result.now c.runs.result.now c.bytes-bytes.result.now
    c.specifiers-fields.ensures c.runs.ensures c.bytes-bytes.ensures c.in_ok-layout.layout.now c.in_ok-layout.ensures
