-- The rows of the message that aren't left are added.
use Rattle.flow_filter.specs.Condition.{passing}
use Rattle.flow_rows.specs.Counts.{rows_of_sets}
use Rattle.flow_files.specs.Reports.{labelling_found}
use Rattle.flow_files.proofs.RowLemmas.{AreAdded}
use Rattle.flow_files.proofs.filtered.add_rows.Given as goal

abbrev pub invariant-loop-row : goal.invariant-loop-row
invariant-loop-row g l =
    AreAdded (λ first rows. g.T.TakesRows.has_rows first (labelling_found l.labels) (passing l.fn.filter (labelling_found l.labels) rows))
    (rows_of_sets l.fn.message.sets) l.row-iterator l.initial.taker l.taker
