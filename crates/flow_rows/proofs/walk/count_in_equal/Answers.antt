use Rattle.std.proofs.Common.{◌≡◌, ◌+◌, ◌<◌, ◌∙◌, ◌∷◌, ℕ, Bool, true, false, List, ap, arith, subst, sym}
use Rattle.std.specs.Prelude.{◌==◌, cond, count_by}
use Rattle.std.specs.List.{flat_map}
use Rattle.std.proofs.lemmas.Bool.{eq-eqb, ne_eqb}
use Rattle.std.proofs.lemmas.List.Sums.{sum_by-cons}
use Rattle.flow_rows.specs.Counts.{has_no_bytes}
use Rattle.flow_rows.specs.Elements.{RowView, rows_of_record}
use Rattle.flow_rows.proofs.EqualRecords.{AreEqual, others_are_left, some_fit}
use Rattle.flow_rows.proofs.walk.count_in_equal.Goals as goal
use Rattle.flow_rows.proofs.walk.count_in_equal.Goals.{then-octets-eq0, else-octets-eq0}

-- there is one more record
one_more : (index number count left : ℕ) → index < number → number ≡ count → index + left ≡ count → 0 < left
one_more index number count left inside is all = omega (arith, inside, is, all)

-- a row is counted if its number of bytes is 0
counted_by : (zero : Bool) (octets found count now : ℕ) → found ≡ octets → (found == 0) ≡ zero → now ≡ count + cond zero 1 0
    → now ≡ count + cond (octets == 0) 1 0
counted_by zero octets found count now same is counted = counted ∙ ap (λ b. count + cond b 1 0) (sym (ap (λ n. n == 0) (sym same) ∙ is))

pub new-requires : goal.new-requires
new-requires c =
    (some_fit c.args.layout.now c.last_run-length.result c.loop-index.rest c.loop-index.invariant.0 c.loop-index.invariant.1
    (one_more _ _ _ _ c.loop-index-test.true c.len-index-end.ensures c.loop-index.invariant.2)).1

pub split_at-requires : goal.split_at-requires
split_at-requires c =
    (some_fit c.args.layout.now c.last_run-length.result c.loop-index.rest c.loop-index.invariant.0 c.loop-index.invariant.1
    (one_more _ _ _ _ c.loop-index-test.true c.len-index-end.ensures c.loop-index.invariant.2)).0

pub loop-index-preserved : goal.loop-index-preserved
loop-index-preserved c =
    let so_far = c.loop-index.invariant in
    let others = others_are_left c.args.layout.now c.last_run-length.result c.loop-index.rest so_far.0 so_far.1
    (one_more _ _ _ _ c.loop-index-test.true c.len-index-end.ensures c.loop-index.invariant.2) c.requires.second in
    let row : RowView = c.new.result in
    let rows : List RowView = flat_map rows_of_record others.0 in
    let more : count_by has_no_bytes (flat_map rows_of_record so_far.0) ≡ cond (row.octets == 0) 1 0 + count_by has_no_bytes rows =
    ap (count_by has_no_bytes) (others.3 ∙ ap (λ (r : RowView). r ∷ rows) (sym c.new.ensures))
    ∙ sum_by-cons (λ (r : RowView). cond (has_no_bytes r) 1 0) row rows in
    let counted : c.if-octets-eq0.count ≡ c.loop-index.count + cond (row.octets == 0) 1 0 =
    elim c.if-octets-eq0.branch [
      | then-octets-eq0 w ↦ counted_by true row.octets c.octets.result c.loop-index.count _ c.octets.ensures (eq-eqb _ 0 w.if-octets-eq0.true) (omega (arith, w.count-is))
      | else-octets-eq0 w ↦ counted_by false row.octets c.octets.result c.loop-index.count _ c.octets.ensures (ne_eqb _ 0 w.if-octets-eq0.false) (omega (arith, w.count-is))
    ] in (
      others.0,
      subst (λ (bytes : List ℕ). AreEqual c.args.layout.now c.last_run-length.result bytes others.0) (sym c.split_at.ensures.back) others.1,
      omega (arith, so_far.2, others.2),
      omega (arith, so_far.3, more, counted),
    )
