use Rattle.std.proofs.Common.{◌≡◌, ◌++◌, true, false, List, Option, ap, arith, length, length-append, rules, subst, sym}
use Rattle.flow_filter.specs.Condition.{Condition, passing, row_passes}
use Rattle.flow_rows.specs.Counts.{rows_of_sets}
use Rattle.flow_rows.specs.Elements.{RowView}
use Rattle.label_lookup.specs.Labelling.{Labelling, label_where}
use Rattle.flow_files.specs.Reports.{labelling_found}
use Rattle.flow_files.proofs.RowLemmas.{all_added, few_passing, one_added, with_passing, without_failing}
use Rattle.flow_files.proofs.filtered.add_rows.Goals as goal

pub take_row-requires : goal.take_row-requires
take_row-requires g c =
    let labels : Option Labelling = labelling_found c.args.labels in
    let (first, rows, has, few) = c.requires in
    let added : List RowView = c.loop-row.invariant.added in (
      first,
      passing c.args.filter.now labels (rows ++ added),
      c.loop-row.invariant.more first rows has,
      omega (
        arith,
        few,
        few_passing c.args.filter.now labels (rows ++ added),
        length-append rows added,
        ap length c.loop-row.invariant.all_are,
        length-append added c.loop-row.row-iterator,
        ap length c.in-Some.ensures.steps,
        c.rows_of-row-items.ensures.few,
        ap length c.rows_of-row-items.ensures.rows,
      ),
    )

pub loop-row-preserved-in-Continue-1 : goal.loop-row-preserved-in-Continue-1
loop-row-preserved-in-Continue-1 g c =
    let labels : Option Labelling = labelling_found c.args.labels in
    let condition : Condition = c.args.filter.now in
    let row : RowView = c.in-Some.row in
    let passed : row_passes condition (label_where labels) row ≡ true = search rules in
    one_added (λ first rows. g.T.TakesRows.has_rows first labels (passing condition labels rows)) (rows_of_sets c.args.message.now.sets) c.loop-row.row-iterator c.next.new.self
    row c.args.taker.now c.loop-row.taker c.take_row.new.self c.in-Some.ensures.steps c.loop-row.invariant
    (λ first rows has.
    subst (λ (shown : List RowView). g.T.TakesRows.has_rows first labels shown c.take_row.new.self) (sym (with_passing condition labels rows row passed))
    (c.in_ok-take_row.ensures first (passing condition labels rows) has))

pub loop-row-preserved : goal.loop-row-preserved
loop-row-preserved g c =
    let labels : Option Labelling = labelling_found c.args.labels in
    let condition : Condition = c.args.filter.now in
    let row : RowView = c.in-Some.row in
    let failed : row_passes condition (label_where labels) row ≡ false = search rules in
    one_added (λ first rows. g.T.TakesRows.has_rows first labels (passing condition labels rows)) (rows_of_sets c.args.message.now.sets) c.loop-row.row-iterator c.next.new.self
    row c.args.taker.now c.loop-row.taker c.loop-row.taker c.in-Some.ensures.steps c.loop-row.invariant
    (λ first rows has.
    subst (λ (shown : List RowView). g.T.TakesRows.has_rows first labels shown c.loop-row.taker) (sym (without_failing condition labels rows row failed)) has)

pub returns : goal.returns
returns g c = record {
  few = omega (arith, c.rows_of-row-items.ensures.few, ap length c.rows_of-row-items.ensures.rows);
  rows =
      all_added (λ first rows. g.T.TakesRows.has_rows first (labelling_found c.args.labels) (passing c.args.filter.now (labelling_found c.args.labels) rows))
      (rows_of_sets c.args.message.now.sets) c.loop-row.row-iterator c.args.taker.now c.loop-row.taker c.in-None.ensures.steps.0 c.loop-row.invariant;
}
