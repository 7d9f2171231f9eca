-- The messages of a reader after a call, once the part that the call lent is gone.
use Rattle.std.specs.Prelude.{◌≡◌, ⊤, [], Option, Result}
use Rattle.std.specs.Borrow.{follows_so, Fml, Lends, MutBor, RattleType}
use mathlib.Core.Option.{none}
use mir.Syntax.{named}
use Rattle.flow_io.specs.Devices.{InputView}
use Rattle.ipfix_read.specs.Message.{MessageView, ReadFault}
use Rattle.ipfix_read.specs.Messages.{AnswersCall}
use Rattle.ipfix_read.specs.declared.progress.Decoder.{Decoder}
use Rattle.ipfix_read.specs.declared.progress.Kept.{Kept}
use Rattle.ipfix_read.specs.declared.progress.Messages.{Messages}
use Rattle.ipfix_read.specs.contracts.progress.Kept.{the_row as kept_row}
use Rattle.ipfix_read.specs.contracts.progress.Messages.{the_row as messages_row}
use Rattle.ipfix_read.specs.contracts.progress.Progress.{the_row as progress_row}

-- The decoder has the progress. When it is gone, only the progress has changed, to its last value.
abbrev pub LendsProgress : MutBor Kept → Decoder → Fml
LendsProgress self decoder = Lends kept_row progress_row self decoder.progress (λ w. record self.now { progress = w })

-- The type of the messages. `named 1` is the place of the reader's lifetime in the signature.
abbrev pub row : RattleType → RattleType
row R = messages_row (record { mir = named 1; lft = [] }) R kept_row

module _ (R : RattleType) (self : MutBor (Messages R.Denot Kept)) where
  -- Of the messages, too, only the progress has changed.
  abbrev pub LendsProgressOf : Decoder → Fml
  LendsProgressOf decoder =
      Lends (row R) progress_row self decoder.progress
      (λ w. record self.now { kept = record self.now.kept { progress = w } })

  -- The messages read from the same reference, and the call had this result, from their old state to their last.
  abbrev pub LeavesMessages : (R.Denot → InputView) → Result (Option MessageView) ReadFault → Fml
  LeavesMessages input result =
      follows_so (row R) (row R) self.ghost_name none (λ _ _. ⊤)
      (λ last. (last.reader.ghost_name ≡ self.now.reader.ghost_name)
      × AnswersCall input self.now.kept.progress self.now.reader.now result last.kept.progress last.reader.now)
