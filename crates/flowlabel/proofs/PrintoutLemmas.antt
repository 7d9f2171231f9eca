-- How a command's printout follows from what its files are read as, and how a run ends with it.
use Rattle.std.proofs.Common.{◌≡◌, ◌≤◌, ℕ, Result, Ok, Err, sym, subst}
use Rattle.std.specs.Result.{IsErrAnd}
use Rattle.flow_io.specs.Devices.{InputView, OutputView}
use Rattle.flow_files.specs.declared.by_file.ByFile.{ByFile}
use Rattle.flow_files.specs.ByFile.{each}
use Rattle.flowlabel.specs.Headline.{IsHeadline}
use Rattle.flow_files.specs.declared.bytes_fault.BytesFault.{BytesFault}
use Rattle.flow_files.specs.Outcomes.{Outcome, Then}
use Rattle.flowlabel.specs.Output.{IsOutput}
use Rattle.flow_files.specs.Reports.{AreRead, IsTextWritten, IsReading}
use Rattle.flowlabel.specs.Printouts.{IsPrintout, IsTextOf, IsWhole}
use Rattle.flowlabel.specs.declared.commands.printout.Printout.{Printout}
use Rattle.flowlabel.specs.Request.{Command}
use Rattle.flow_files.specs.Sources.{Text}
use Rattle.flow_files.specs.declared.fault.RunFault.TheVariants.{CannotRead, CannotWrite, File, NoMemory}
use Rattle.flow_files.specs.Readers.{Readers, view_of}
use Rattle.flow_files.specs.declared.fault.RunFault.{RunFault}
use Rattle.flowlabel.specs.Run.{EndsAs}
use Rattle.flow_files.proofs.ReadLemmas.{are_texts, as_err, as_ok, then_follows}

-- The outcomes of a command follow from what is read.
module _ {R A V : Type 0} {input : R → InputView} {n : ℕ} {reading : ByFile Text → Result A BytesFault} {is : A → V → Type 0} {old new : Readers R}
    (rest : A → Outcome → Type 0) where
  pub is_printout : {v : V} {printout : Printout} → AreRead input n (λ texts. IsReading (reading texts) is) old new (Ok v) → n ≤ 4
      → ((a : A) → is a v → IsWhole printout × ((out : Text) → IsTextOf printout out → rest a (Ok out)))
      → IsPrintout input (λ texts. Then rest (reading texts)) old new (Ok printout)
  is_printout had more says = as_ok had more (λ texts given (a, reads, own). (
    (says a own).0,
    λ out is_text. subst (λ (r : Result A BytesFault). Then rest r (Ok out)) (sym reads) ((says a own).1 out is_text),
  ))

  pub faulty : {fault : RunFault} {result : Result Printout RunFault} → AreRead input n (λ texts. IsReading (reading texts) is) old new (Err fault) → n ≤ 4
      → ((a : A) (f : BytesFault) → rest a (Err f) → ⊥)
      → IsErrAnd result (λ other. other ≡ fault) → IsPrintout input (λ texts. Then rest (reading texts)) old new result
  faulty had more prints = as_err had more (λ texts given. then_follows is n rest (λ a f wrong. absurd (prints a f wrong)) (reading texts))

-- the printout can be printed
pub is_whole : {R : Type 0} {input : R → InputView} (Is : ByFile Text → Outcome → Type 0) {old new : Readers R} {printout : Printout}
    → IsPrintout input Is old new (Ok printout) → IsWhole printout
is_whole {input = input} Is {new = new} had = (had.gives.1 (each (λ file. (view_of input file).returned) new) (λ o low. are_texts input new o)).0

-- a run ends with the fault of its command
pub run_fault : {R W : Type 0} {input : R → InputView} (output : W → OutputView) (command : Command) {old new : Readers R} {writer writer' : W}
    (fault : RunFault) → IsPrintout input (IsOutput command) old new (Err fault) → writer' ≡ writer → EndsAs input output command old new writer writer' (Err fault)
run_fault output command NoMemory had same = (had.gives, same)
run_fault output command (CannotRead file) had same = (had.gives, same)
run_fault output command (File file fault) had same = (had.gives, same)
run_fault output command fault had same = absurd had.gives

-- a run ends with the printout of its command, or with a fault of printing it
pub printout_written : {R W : Type 0} {input : R → InputView} (output : W → OutputView) (command : Command) {old new : Readers R} {printout : Printout}
    → IsPrintout input (IsOutput command) old new (Ok printout)
    → ((texts : ByFile Text) (out : Text) → IsOutput command texts (Ok out) → IsHeadline command texts out)
    → (writer writer' : W) (result : Result (Unit {0}) RunFault) → IsTextWritten output (IsTextOf printout) writer writer' result → EndsAs input output command old new writer writer' result
printout_written output command had headline writer writer' (Ok done) (out, is_text, writes) = (
  out,
  λ texts given. let is = (had.gives.1 texts (λ o low. given o)).1 out is_text in (is, headline texts out is),
  writes,
  had.gives.0,
)
printout_written output command had headline writer writer' (Err CannotWrite) (out, is_text, stops) =
    (out, λ texts given. (had.gives.1 texts (λ o low. given o)).1 out is_text, stops, had.gives.0)
printout_written output command had headline writer writer' (Err NoMemory) same = (had.gives.0, same)
printout_written output command had headline writer writer' (Err fault) written = absurd written
