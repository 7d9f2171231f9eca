use Rattle.prefix_keys.specs.Block.{width_of}
use Rattle.pmap_cert.specs.Format.{format_number}
use Rattle.pmap_cert.proofs.Printed.{both-printed}
use Rattle.pmap_cert.proofs.Written.{whole_text}
use Rattle.pmap_cert.proofs.writing.CertificatePrintable.print.Goals as goal

pub returns : goal.returns
returns g c =
    let me = c.args.self.now in
    both-printed g.S.Sink.sink g.S.Sink.began c.args.out.now c.push_head.new.out c.push_nodes.new.out _ _ _ c.push_nodes.result
    (rw c.nodes.ensures (whole_text (format_number me.format) me.version me.labels me.root (width_of me.version) c.laws.ensures.table me.form))
    c.in_ok-push_head.ensures c.push_nodes.ensures
