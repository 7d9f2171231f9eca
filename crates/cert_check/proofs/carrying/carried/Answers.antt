use Rattle.std.proofs.Common.{◌∙◌, [], ◌++◌, ◌∷◌, cond, sym}
use Rattle.cert_check.specs.Carried.{meets_block, spans_block}
use Rattle.cert_check.proofs.Carries.{carried-more}
use Rattle.cert_check.proofs.carrying.carried.Goals as goal

pub loop-statement-preserved : goal.loop-statement-preserved
loop-statement-preserved c =
    let b = c.args.block.now in
    let s = c.statement-item.result in
    c.in_ok-add_statement.ensures
    ∙ (λ i. cond (meets_block b s) (cond (spans_block b s) [] (c.loop-statement.invariant i) ++ s ∷ []) (c.loop-statement.invariant i))
    ∙ sym (carried-more b c.args.statements.now c.loop-statement.statement-index s c.loop-statement-test.true c.statement-item.is)
