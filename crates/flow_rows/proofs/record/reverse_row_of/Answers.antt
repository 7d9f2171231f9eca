use Rattle.std.proofs.Common.{◌∙◌, refl, rules}
use Rattle.flow_rows.proofs.LayoutRows.{reverse_found, row_missing, usable}
use Rattle.flow_rows.proofs.record.reverse_row_of.Goals as goal

pub returns-in_err-layout : goal.returns-in_err-layout
returns-in_err-layout c =
    let missing =
    (row_missing c.args.source.now c.args.source.now.kind refl c.specifiers-fields.result.now _ c.bytes-bytes.result.now
    c.specifiers-fields.ensures refl c.bytes-bytes.ensures c.in_err-layout.ensures).1 in
    search rules

pub second_row-requires : goal.second_row-requires
second_row-requires c =
    (usable c.args.source.now c.args.source.now.kind refl c.specifiers-fields.result.now _ c.bytes-bytes.result.now
    c.specifiers-fields.ensures refl c.bytes-bytes.ensures c.in_ok-layout.layout.now c.in_ok-layout.ensures).1

pub returns : goal.returns
returns c =
    c.second_row.ensures
    ∙ reverse_found c.args.source.now c.args.source.now.kind refl c.specifiers-fields.result.now c.runs.result.now c.bytes-bytes.result.now
    c.specifiers-fields.ensures c.runs.ensures c.bytes-bytes.ensures c.in_ok-layout.layout.now c.in_ok-layout.ensures
