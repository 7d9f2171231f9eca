use Rattle.std.proofs.Common.{Ok, Some, ap, arith, refl}
use Rattle.flow_files.proofs.ReadLemmas.{then_err, then_ok}
use Rattle.flow_files.proofs.labels.read_labels.Goals as goal

pub returns-in_err-of_file-in-Some-clause-read : goal.returns-in_err-of_file-in-Some-clause-read
returns-in_err-of_file-in-Some-clause-read g c =
    rw c.in-Some.is
    (then_err (λ texts l. Ok (Some l)) c.in_err-of_file-in-Some.ensures.read (omega arith) (λ texts given. refl) (λ texts l fault is. cc) c.from_residual.ensures.1)

pub returns-in_ok-of_file-in-Some-clause-read : goal.returns-in_ok-of_file-in-Some-clause-read
returns-in_ok-of_file-in-Some-clause-read g c =
    rw c.in-Some.is
    (then_ok (λ texts l. Ok (Some l)) c.in_ok-of_file-in-Some.ensures.read (omega arith) (λ texts given. refl) (λ texts l is. (Some l, refl, ap Some is)))
