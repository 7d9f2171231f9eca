use Rattle.std.proofs.Common.{◌≡◌, take}
use Rattle.cert_check.specs.Carried.{carried_to}
use Rattle.cert_check.proofs.carrying.carried.Given as goal

abbrev pub invariant-loop-statement : goal.invariant-loop-statement
invariant-loop-statement l = l.kept.items ≡ carried_to l.block (take l.statement-index l.statements)
