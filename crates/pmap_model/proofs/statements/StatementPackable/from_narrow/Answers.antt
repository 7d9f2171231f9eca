use Rattle.std.proofs.Common.{refl}
use Rattle.pmap_model.proofs.PackedStatements.{addr-same, statement-same}
use Rattle.pmap_model.proofs.statements.StatementPackable.from_narrow.Goals as goal

pub returns : goal.returns
returns c = statement-same _ _ (addr-same _ _ refl c.from.ensures) (addr-same _ _ refl c.from-2.ensures) refl
