-- The prover would find this proof by itself. With this answer it rejects an edit of the exit after one search.
use Rattle.std.proofs.Common.{rules}
use Rattle.flowlabel.proofs.execute.Goals as goal

pub returns-in-Err : goal.returns-in-Err
returns-in-Err g c = search rules
