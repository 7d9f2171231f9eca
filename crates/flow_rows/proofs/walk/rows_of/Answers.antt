use Rattle.std.proofs.Common.{◌∙◌, ap, arith, length}
use Rattle.flow_rows.specs.Counts.{rows_of_sets}
use Rattle.flow_rows.proofs.Walking.{rows_within}
use Rattle.flow_rows.proofs.walk.rows_of.Goals as goal

pub returns-clause-few : goal.returns-clause-few
returns-clause-few c =
    omega (
      arith,
      ap (λ sets. length (rows_of_sets sets)) (c.iter.ensures.rest ∙ c.as_slice.ensures ∙ c.sets.ensures.value),
      rows_within c.args.message.now.sets,
      c.sets.ensures.size,
    )
