use Rattle.std.specs.Prelude.{◌≡◌, ◌⊎◌, ℕ, List, MatchResult, Option, Result, Ok, Err, codes}
use Rattle.std.specs.Result.{IsErrAnd}
use Rattle.std.specs.declared.io.ErrorKind.{ErrorKind as IoErrorKind}
use Rattle.flow_io.specs.Devices.{InputView, OutputView}
use Rattle.flow_files.specs.Answer.{words_fault_of}
use Rattle.flow_files.specs.Ending.{IsReported}
use Rattle.flow_files.specs.Faults.{exit_status_of}
use Rattle.flow_files.specs.Opening.{AreOpened, CannotOpenFirst}
use Rattle.flow_files.specs.Readers.{AreUnread, Readers}
use Rattle.flow_files.specs.declared.fault.RunFault.{RunFault}
use Rattle.flow_files.specs.declared.fault.RunFault.TheVariants.{Usage}
use Rattle.flow_files.specs.Sources.{Text}
use Rattle.flow_many.specs.Answer.{Answers, IsFaultAt}
use Rattle.flow_many.specs.Request.{Command, labels_named, request_of}
use Rattle.flow_many.specs.Run.{EndsAs}

-- What the program does: how it ends for its words, which text it writes to which stream, and its exit status.

module _ {R W : Type 0} (answers : Text → Option R → Type 0) (input : R → InputView) (output : W → OutputView) where
  -- A usage fault is a fault of the words. With any other result the words ask for a request. Either its map or its
  -- list can't be opened, and the result says so, or the request is run over the opened map or list, of which nothing
  -- was read before.
  abbrev pub IsEndOf : List Text → W → W → Result (Unit {0}) RunFault → Type 0
  IsEndOf words old new (Err (Usage fault)) = IsFaultAt words fault × (new ≡ old)
  IsEndOf words old new result =
      (command : Command) × Answers words (Ok (request_of command)) × (
      (IsErrAnd result (CannotOpenFirst answers (labels_named (request_of command))) × (new ≡ old))
      ⊎ ((files : Readers R)
      × AreOpened answers (labels_named (request_of command)) files × AreUnread input files
      × (files' : Readers R)
      × EndsAs answers input output command files files' old new result))

-- The program for these words, or an error of getting them: a command's outcome, the text that is written for it, and
-- the exit status. Between the two the output is in this state.
module _ {R O E : Type 0} (answers : Text → Option R → Type 0) (input : R → InputView)
    (output : O → OutputView) (error : E → OutputView) where
  pub record IsProgram (words : Result (List Text) IoErrorKind) (out out' : O) (err err' : E)
      (code : ℕ) : Type 0 where
    pub outcome : Result (Unit {0}) RunFault
    pub between : O
    pub ends : MatchResult words (λ list. IsEndOf answers input output list out between outcome)
        (λ kind. (outcome ≡ Err (Usage (words_fault_of kind))) × (between ≡ out))
    pub reported : IsReported output error (codes "flowlabel-many") outcome between out' err err'
    pub status : code ≡ exit_status_of outcome
