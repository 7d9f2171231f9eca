-- How the result of `parse` follows from the kind of clap's error, or from the entries of its matches.
use Rattle.std.proofs.Common.{◌≡◌, true, Result, Ok, refl}
use Rattle.std.specs.Prelude.{IfOk}
use Rattle.clap.specs.Words.{is_simple, is_simple_and_free}
use Rattle.clap.proofs.OnLiterals.{clap_on_literals}
use Rattle.flowlabel.specs.Request.{Command, IsProper, Label, request_of}
use Rattle.flowlabel.specs.Definition.{flowlabel_app}
use Rattle.flow_files.specs.declared.usage.UsageFault.{UsageFault}

-- clap's theorems are about definitions such as this one
pub flowlabel_is_simple : is_simple flowlabel_app ≡ true
unfolding flowlabel_app clap_on_literals
flowlabel_is_simple = refl

pub flowlabel_is_free : is_simple_and_free flowlabel_app ≡ true
unfolding flowlabel_app clap_on_literals
flowlabel_is_free = refl

-- the address of the request of each result is one of its version, as `Addr` ensures
pub answer_is_proper : (r : Result Command UsageFault) → IfOk r (λ c. IsProper (request_of c))
answer_is_proper (Ok (Label labels addr)) = addr.in_range
answer_is_proper r = tt
