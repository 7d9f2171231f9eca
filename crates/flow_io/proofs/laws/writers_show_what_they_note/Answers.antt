use Rattle.std.proofs.Common.{refl}
use Rattle.flow_io.proofs.laws.writers_show_what_they_note.Goals as goal

pub returns-clause-taken : goal.returns-clause-taken
returns-clause-taken c contents writer = refl

pub returns-clause-failed : goal.returns-clause-failed
returns-clause-failed c contents writer = refl

pub returns-clause-last : goal.returns-clause-last
returns-clause-last c contents writer = refl

pub returns-clause-contents : goal.returns-clause-contents
returns-clause-contents c contents writer = refl
