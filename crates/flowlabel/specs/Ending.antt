use Rattle.std.specs.Prelude.{◌≡◌, ◌⊎◌, ℕ, List, MatchResult, Option, Result, Ok, Err}
use Rattle.std.specs.Result.{IsErrAnd}
use Rattle.std.specs.declared.io.ErrorKind.{ErrorKind as IoErrorKind}
use Rattle.flow_io.specs.Devices.{InputView, OutputView}
use Rattle.flowlabel.specs.Answer.{Answers, IsFaultAt}
use Rattle.flow_files.specs.Answer.{words_fault_of}
use Rattle.flow_files.specs.declared.by_file.ByFile.{ByFile}
use Rattle.flow_files.specs.Faults.{exit_status_of}
use Rattle.flow_files.specs.Opening.{AreOpened, CannotOpenFirst}
use Rattle.flowlabel.specs.Request.{Command, files_of, request_of}
use Rattle.flow_files.specs.Sources.{Text}
use Rattle.flow_files.specs.Readers.{AreUnread}
use Rattle.flow_files.specs.declared.fault.RunFault.{RunFault}
use Rattle.flow_files.specs.declared.inputs.Source.{Source}
use Rattle.flow_files.specs.declared.fault.RunFault.TheVariants.{Usage}
use Rattle.flowlabel.specs.Run.{IsRunOf}
use Rattle.flow_files.specs.Ending.{IsReported}
use Rattle.flowlabel.specs.Definition.{program_name}

-- What the program does: how it ends for its words, which text it writes to which stream, and its exit status.

module _ {R W : Type 0} (answers : Text → Option R → Type 0) (input : R → InputView) (output : W → OutputView) where
  -- A usage fault is a fault of the words. With any other result the words ask for a request. Either one of its files
  -- can't be opened, and the result is for the first such file, or the request is run over its opened files, of which
  -- nothing was read before.
  abbrev pub IsEndOf : List Text → W → W → Result (Unit {0}) RunFault → Type 0
  IsEndOf words old new (Err (Usage fault)) = IsFaultAt words fault × (new ≡ old)
  IsEndOf words old new result =
      (command : Command) × Answers words (Ok (request_of command)) × (
      (IsErrAnd result (CannotOpenFirst answers (files_of (request_of command))) × (new ≡ old))
      ⊎ ((files : ByFile (Option (Source R)))
      × AreOpened answers (files_of (request_of command)) files × AreUnread input files
      × (files' : ByFile (Option (Source R)))
      × IsRunOf input output command files files' old new result))

-- The program for these words, or an error of getting them: a command's outcome, the text that is written for it, and
-- the exit status. Between the two the output is in this state.
module _ {R O E : Type 0} (answers : Text → Option R → Type 0) (input : R → InputView)
    (output : O → OutputView) (error : E → OutputView) where
  pub record IsProgram (words : Result (List Text) IoErrorKind) (out out' : O) (err err' : E)
      (code : ℕ) : Type 0 where
    pub outcome : Result (Unit {0}) RunFault
    pub between : O
    pub ends : MatchResult words (λ list. IsEndOf answers input output list out between outcome)
        (λ kind. (outcome ≡ Err (Usage (words_fault_of kind))) × (between ≡ out))
    pub reported : IsReported output error program_name outcome between out' err err'
    pub status : code ≡ exit_status_of outcome
