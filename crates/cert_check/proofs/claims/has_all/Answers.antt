use Rattle.std.proofs.Common.{◌∙◌}
use Rattle.cert_check.specs.Inner.{has_number}
use Rattle.cert_check.proofs.Sets.{implied, numbers}
use Rattle.cert_check.proofs.claims.has_all.Goals as goal

pub returns : goal.returns
returns c = c.has_common.ensures ∙ implied (has_number (numbers c.args.set.now)) c.args.labels.now c.args.labels.now (λ n h. h)
