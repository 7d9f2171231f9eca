use Rattle.std.specs.Prelude.{◌≡◌, ◌⊎◌, ℕ, List, Result, Ok, Err}
use Rattle.std.specs.String.{string_bytes}
use Rattle.flow_io.specs.Devices.{OutputView, StopsWriting, WritesWhole}
use Rattle.flow_files.specs.Faults.{fault_text}
use Rattle.flow_files.specs.Sources.{Text}
use Rattle.flow_files.specs.Readers.{RunFault, Usage}
use Rattle.flow_files.specs.declared.usage.UsageFault.TheVariants as usage

-- What a program writes to which stream when it ends.

-- the writer took the text whole and was flushed, or it failed before that
abbrev pub IsWritten : OutputView → OutputView → List ℕ → Type 0
IsWritten old new text = WritesWhole old new text ⊎ StopsWriting old new text

-- Help goes to standard output, and the line of a fault to standard error if there is memory for it. Nothing else is
-- written.
module _ {O E : Type 0} (output : O → OutputView) (error : E → OutputView) where
  abbrev pub IsReported : Text → Result (Unit {0}) RunFault → O → O → E → E → Type 0
  IsReported program (Ok done) out out' err err' = (out' ≡ out) × (err' ≡ err)
  IsReported program (Err (Usage (usage.Help text))) out out' err err' =
      IsWritten (output out) (output out') (string_bytes text) × (err' ≡ err)
  IsReported program (Err fault) out out' err err' =
      (out' ≡ out) × (IsWritten (error err) (error err') (fault_text program fault) ⊎ (err' ≡ err))
