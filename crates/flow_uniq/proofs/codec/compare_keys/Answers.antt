use Rattle.std.proofs.Common.{◌∙◌}
use Rattle.flow_uniq.proofs.CodeOrder.{codes_in_order}
use Rattle.flow_uniq.proofs.codec.compare_keys.Goals as goal

pub returns : goal.returns
returns c = c.cmp.ensures ∙ codes_in_order c.args.a.code.now c.args.b.code.now c.args.a.is_code c.args.b.is_code
