use Rattle.cert_check.proofs.OneStretch.{known-numbers}
use Rattle.cert_check.proofs.source.Source.new.Goals as goal

pub returns-clause-known : goal.returns-clause-known
returns-clause-known c =
    known-numbers c.args.labels.now c.args.table.now _ c.args.stretches.now c.in_ok-numbers_in.ensures c.requires
