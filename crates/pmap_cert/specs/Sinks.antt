use Rattle.std.proofs.Common.{ℕ, List, ◌++◌, ◌∙◌, ap, append_assoc}
use Rattle.flow_io.specs.Devices.{OutputView}
use Rattle.flow_io.specs.Sinks.{Adds, SinkView}

-- a text that is printed after another one is printed with it
pub adds-then : {S : Type 0} (sink : S → SinkView) (began : OutputView → S → Type 0) (old mid new : S)
    (text more : List ℕ) → Adds sink began old mid text → Adds sink began mid new more
    → Adds sink began old new (text ++ more)
adds-then sink began old mid new text more first second = (
  second.0 ∙ ap (λ l. l ++ more) first.0 ∙ append_assoc (sink old).printed text more,
  second.1 ∙ first.1,
  (λ start at. second.2 start (first.2 start at)),
)
