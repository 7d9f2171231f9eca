use Rattle.std.specs.Prelude.{◌≡◌, false, Some, Result, Ok, Err}
use Rattle.flow_io.specs.Devices.{InputView, OutputView, StopsWriting, WritesWhole}
use Rattle.flow_files.specs.declared.by_file.ByFile.{ByFile}
use Rattle.flow_files.specs.ByFile.{Role, at}
use Rattle.flowlabel.specs.Headline.{IsHeadline}
use Rattle.flowlabel.specs.Output.{IsOutput}
use Rattle.flowlabel.specs.Request.{Command}
use Rattle.flow_files.specs.Sources.{Text}
use Rattle.flow_files.specs.Readers.{AreTexts, IsFaultOf, MayHave, Readers, any_failed, view_of}
use Rattle.flow_files.specs.declared.fault.RunFault.TheVariants.{CannotWrite}
use Rattle.flow_files.specs.declared.fault.RunFault.{RunFault}

-- What a run of a command does with the readers of its files and the writer of its output.

-- What a run of a command does, if nothing of its files is read before, and neither a reader nor the writer has failed.
-- The functions are what contracts see of a reader and of a writer.
module _ {R W : Type 0} (input : R → InputView) (output : W → OutputView) where
  -- The writer took exactly the output over each text that the files may have, for which the headline holds, and was
  -- then flushed once. After a write fault it has a prefix of the output, or all of it if the flush failed. Any other
  -- fault comes before it is called. A fault of a device comes exactly from a device that failed.
  abbrev pub EndsAs : Command → Readers R → Readers R → W → W
      → Result (Unit {0}) RunFault → Type 0
  EndsAs command old new writer writer' (Ok done) =
      (out : Text) × ((texts : ByFile Text) → AreTexts input new texts
      → IsOutput command texts (Ok out) × IsHeadline command texts out)
      × WritesWhole (output writer) (output writer') out × (any_failed input new ≡ false)
  EndsAs command old new writer writer' (Err CannotWrite) =
      (out : Text) × ((texts : ByFile Text) → AreTexts input new texts
      → IsOutput command texts (Ok out))
      × StopsWriting (output writer) (output writer') out × (any_failed input new ≡ false)
  EndsAs command old new writer writer' (Err fault) =
      IsFaultOf input (IsOutput command) old new fault × (writer' ≡ writer)

  -- What a run does; and that a text which a reader reports is among those that its file may have: then the output is
  -- the one over this text.
  pub record IsRunOf (command : Command) (old new : Readers R)
      (writer writer' : W) (result : Result (Unit {0}) RunFault) : Type 0 where
    pub ends : EndsAs command old new writer writer' result
    pub reported : (role : Role) (text : Text) → (view_of input (at role old)).left ≡ Some text
        → MayHave (view_of input (at role new)) text
