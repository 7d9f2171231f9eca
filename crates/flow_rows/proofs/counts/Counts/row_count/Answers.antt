use Rattle.std.proofs.Common.{◌∙◌, ap, arith, is_some, sym}
use Rattle.std.specs.Prelude.{count_by}
use Rattle.flow_rows.specs.Elements.{second_row}
use Rattle.flow_rows.proofs.LayoutRows.{all_rows, no_layout, none_back}
use Rattle.flow_rows.proofs.counts.Counts.row_count.Goals as goal

pub returns-in_default-clause-value : goal.returns-in_default-clause-value
returns-in_default-clause-value c =
    sym (no_layout c.fields.result.now c.args.records.now c.kind.result c.kind.ensures c.fields.ensures c.in_default.ensures)

pub returns-in-None-clause-value : goal.returns-in-None-clause-value
returns-in-None-clause-value c =
    omega (
      arith,
      all_rows c.fields.result.now c.args.records.now c.kind.result c.kind.ensures c.fields.ensures c.in-Some.layout.now
          c.in-Some.ensures,
      ap (count_by (λ r. is_some (second_row r))) c.in-None.ensures.steps.0,
      c.loop-source.invariant,
    )

pub returns-else-is_there-clause-value : goal.returns-else-is_there-clause-value
returns-else-is_there-clause-value c =
    omega (
      arith,
      all_rows c.fields.result.now c.args.records.now c.kind.result c.kind.ensures c.fields.ensures c.in-Some.layout.now
          c.in-Some.ensures,
      none_back c.fields.result.now c.args.records.now c.kind.result c.kind.ensures c.fields.ensures c.in-Some.layout.now
          c.in-Some.ensures (sym c.is_there.ensures ∙ c.if-is_there.false),
      c.len-count.ensures,
    )
