use Rattle.std.proofs.Common.{refl, sym}
use Rattle.pmap_model.proofs.PackedStatements.{entry-same}
use Rattle.pmap_model.proofs.entries.EntryPackable.narrow.Goals as goal

pub returns : goal.returns
returns c = entry-same _ _ (sym c.requires) refl refl refl
