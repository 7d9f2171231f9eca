use Rattle.std.specs.Prelude.{◌≡◌, ◌++◌, ⊤, ℕ, List, Result, Ok, Err, true}
use base.Fml.{GName}
use Rattle.flow_io.specs.Devices.{OutputView, Takes, Write}

-- what contracts see of a sink: the text that was printed so far, and the reference to the writer below, if there is
-- one
pub record SinkView : Type 0 where
  pub printed : List ℕ
  pub reference : GName

-- A sink has this text added to what was printed, and its writer began as before. The functions give the view of a
-- sink, and say what its writer was at first.
abbrev pub Adds : {S : Type 0} → (S → SinkView) → (OutputView → S → Type 0) → S → S → List ℕ → Type 0
Adds sink began old new text =
    ((sink new).printed ≡ (sink old).printed ++ text) × ((sink new).reference ≡ (sink old).reference)
    × ((first : OutputView) → began first old → began first new)

-- a printer that returns `Ok` has printed this text
abbrev pub Pushes : {S A E : Type 0} → (S → SinkView) → (OutputView → S → Type 0) → S → S → List ℕ → Result A E → Type 0
Pushes sink began old new text (Ok _) = Adds sink began old new text
Pushes sink began old new text (Err _) = ⊤

-- the same for one of the texts that a value may have
abbrev pub PrintsText : {S A E : Type 0} → (S → SinkView) → (OutputView → S → Type 0) → S → S
    → (List ℕ → Type 0) → Result A E → Type 0
PrintsText sink began old new Is (Ok _) = (text : List ℕ) × Is text × Adds sink began old new text
PrintsText sink began old new Is (Err _) = ⊤

-- a writer has taken these bytes since it was this, wasn't flushed, and failed at its last write if it did
abbrev pub HasTaken : OutputView → OutputView → List ℕ → Type 0
HasTaken first now bytes =
    Takes first now bytes × (now.flushes ≡ first.flushes) × (now.failed ≡ true → now.last_call ≡ Write)
