use Rattle.std.proofs.Common.{map, take}
use Rattle.flow_io.specs.Sinks.{Adds}
use Rattle.pmap_cert.specs.CertificateText.{text_of_lines}
use Rattle.pmap_cert.specs.Node.{node_line_text}
use Rattle.pmap_cert.proofs.writing.push_nodes.Given as goal

abbrev pub invariant-loop-number : goal.invariant-loop-number
invariant-loop-number g l =
    Adds g.S.Sink.sink g.S.Sink.began l.initial.out l.out (text_of_lines (map node_line_text (take l.number l.nodes)))
