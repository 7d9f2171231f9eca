use Rattle.std.proofs.Common.{◌∙◌, ◌||◌, inl, inr, not, sym}
use Rattle.pmap_model.specs.declared.label.LabelId.{LabelId}
use Rattle.cert_check.specs.Inner.{has_number}
use Rattle.cert_check.proofs.Sets.{all-more, goes-on, numbers, or-from, walk-has}
use Rattle.cert_check.proofs.claims.has_common.Goals as goal
use Rattle.cert_check.proofs.claims.has_common.Goals.{else-begins_with-via-then-begins_with+else-not-begins_with, else-begins_with-via-else-begins_with}

pub loop-id-preserved : goal.loop-id-preserved
loop-id-preserved c =
    let lower = c.args.lower.now in
    let upper = c.args.upper.now in
    let set = c.args.set.now in
    let i = c.loop-id.id-index in
    let id : LabelId = record { 0 = 0 } in
    let walk = c.loop-id.invariant.walk in
    let above = c.loop-id.invariant.above in
    let rest = c.rest_from-rest.ensures in
    let following = c.rest_from-above.ensures in
    let here = walk-has lower c.loop-id.rest.now c.rest_from-rest.result.now set i id c.loop-id-test.true walk rest.ascending rest.kept in
    let there = walk-has lower c.loop-id.above.now c.rest_from-above.result.now upper i id c.loop-id-test.true above following.ascending following.kept in
    record {
      walk = goes-on lower c.loop-id.rest.now c.rest_from-rest.result.now set i id c.loop-id-test.true walk rest.ascending rest.kept;
      above = goes-on lower c.loop-id.above.now c.rest_from-above.result.now upper i id c.loop-id-test.true above following.ascending following.kept;
      all = all-more (λ (j : LabelId). not (has_number (numbers upper) j.0) || has_number (numbers set) j.0) lower i id c.loop-id-test.true
          (elim c.else-begins_with.branch [
            | else-begins_with-via-then-begins_with+else-not-begins_with w ↦ or-from _ _ (inr (sym here ∙ sym w.begins_with-then-begins_with.ensures ∙ w.if-not-begins_with.false))
            | else-begins_with-via-else-begins_with w ↦ or-from _ _ (inl (sym there ∙ sym c.begins_with.ensures ∙ w.if-begins_with.false))
          ])
          c.loop-id.invariant.all;
    }
