use Rattle.std.proofs.Common.{◌≡◌, vec_len}
use Rattle.flow_io.specs.Devices.{ReadsInput}
use Rattle.nfcapd_read.specs.Making.{IsEmpty}
use Rattle.nfcapd_read.specs.Reading.{parts_left}
use Rattle.nfcapd_read.proofs.Opening.{LeadsTo}
use Rattle.nfcapd_read.proofs.file.convert.Given as goal

abbrev pub invariant-making : goal.invariant-making
invariant-making g l = record {
  sized : vec_len l.part ≡ 65535;
  none : IsEmpty l.pending;
  leads : ReadsInput (g.R.Input.input l.initial.reader) (g.R.Input.input l.reader) (LeadsTo l.fn.header l.made.items l.reading l.pending);
  same : (g.R.Input.input l.reader).failed ≡ (g.R.Input.input l.initial.reader).failed;
}

abbrev pub decreases-making : goal.decreases-making
decreases-making g l = parts_left l.reading
