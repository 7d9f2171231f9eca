use Rattle.std.proofs.Common.{refl}
use Rattle.flow_files.proofs.laws.shared_arguments.Goals as goal

pub returns : goal.returns
returns c = record { sources = refl; reports = refl }
