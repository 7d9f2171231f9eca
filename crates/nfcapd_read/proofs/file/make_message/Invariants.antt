use Rattle.std.proofs.Common.{◌≡◌, ◌≤◌, ◌++◌, List, ℕ}
use Rattle.flow_io.specs.Devices.{ReadsInput}
use Rattle.nfcapd_read.specs.Making.{IsOpen, rest_of}
use Rattle.nfcapd_read.specs.Reading.{parts_left}
use Rattle.nfcapd_read.proofs.file.make_message.Given as goal

abbrev pub invariant-loop-size : goal.invariant-loop-size
invariant-loop-size g l = record {
  room : IsOpen l.pending;
  reads : ReadsInput (g.R.Input.input l.initial.reader) (g.R.Input.input l.reader)
      (λ taken. (rest : List ℕ) → rest_of l.initial.reading l.initial.pending (taken ++ rest) ≡ rest_of l.reading l.pending rest);
  less : parts_left l.reading ≤ parts_left l.initial.reading;
  same : (g.R.Input.input l.reader).failed ≡ (g.R.Input.input l.initial.reader).failed;
}

abbrev pub decreases-loop-size : goal.decreases-loop-size
decreases-loop-size g l = parts_left l.reading
