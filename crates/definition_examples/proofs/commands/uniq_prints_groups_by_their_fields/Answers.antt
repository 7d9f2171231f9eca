-- The claim whose computation the prover's own search gives up.
use Rattle.std.proofs.Common.{refl}
use Rattle.definition_examples.specs.Commands.{opened}
use Rattle.definition_examples.proofs.commands.uniq_prints_groups_by_their_fields.Goals as goal

pub returns-clause-as_they_come : goal.returns-clause-as_they_come
unfolding opened
returns-clause-as_they_come c = (_, refl, refl)
