use Rattle.std.proofs.Common.{take}
use Rattle.flow_io.specs.Sinks.{Adds}
use Rattle.pmap_cert.specs.CertificateText.{text_of_lines}
use Rattle.pmap_cert.proofs.writing.push_labels.Given as goal

abbrev pub invariant-loop-number : goal.invariant-loop-number
invariant-loop-number g l = Adds g.S.Sink.sink g.S.Sink.began l.initial.out l.out (text_of_lines (take l.number l.labels))
