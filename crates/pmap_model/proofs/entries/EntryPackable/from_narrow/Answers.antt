use Rattle.std.proofs.Common.{refl}
use Rattle.pmap_model.proofs.PackedStatements.{entry-same}
use Rattle.pmap_model.proofs.entries.EntryPackable.from_narrow.Goals as goal

pub returns : goal.returns
returns c = entry-same _ _ refl c.from.ensures refl refl
