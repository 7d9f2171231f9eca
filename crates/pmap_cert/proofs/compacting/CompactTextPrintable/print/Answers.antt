use Rattle.std.proofs.Common.{◌∙◌, ap, arith, length, nat_eq, refl, subst}
use Rattle.flow_io.specs.Sinks.{Pushes}
use Rattle.prefix_keys.specs.Block.{width_of}
use Rattle.prefix_keys.proofs.Groups.{width-le}
use Rattle.pmap_cert.specs.CertificateText.{certificate_text}
use Rattle.pmap_cert.specs.Compacting.{compacted}
use Rattle.pmap_cert.specs.Node.{Node}
use Rattle.pmap_cert.specs.Opened.{node_text}
use Rattle.pmap_cert.proofs.CompactForms.{form-compacted}
use Rattle.pmap_cert.proofs.CompactNodes.{compact-one, compact-two}
use Rattle.pmap_cert.proofs.CompactPlaces.{ends-later, plain-of, root-at, some-lines}
use Rattle.pmap_cert.proofs.Printed.{both-printed}
use Rattle.pmap_cert.proofs.Written.{whole_text}
use Rattle.pmap_cert.proofs.compacting.CompactTextPrintable.print.Goals as goal

pub compact_node-requires : goal.compact_node-requires
compact_node-requires g c =
    let me = c.args.self.now.certificate.now in
    let nodes = c.nodes.result.now in
    let is = c.nodes.ensures in
    let ends = c.as_slice.result.now in
    record {
      plain = plain-of me.root nodes is (me.kind c.in-One.is) (length me.labels, width_of me.version, width-le me.version, me.form);
      within = some-lines me.root nodes is;
      ends = ends-later nodes ends 0 1 (rw (is, c.as_slice.ensures.value) (c.args.self.now.ends_are c.in-One.is)) (omega arith);
    }

pub returns-in-One : goal.returns-in-One
returns-in-One g c =
    let me = c.args.self.now.certificate.now in
    let root : Node = compacted nat_eq me.root in
    let form = form-compacted (length me.labels) me.root (width_of me.version) (me.kind c.in-One.is) me.form in
    both-printed g.S.Sink.sink g.S.Sink.began c.args.out.now c.push_head.new.out c.compact_node.new.out _ _ _ c.compact_node.result
    (whole_text 2 me.version me.labels root (width_of me.version) c.laws.ensures.table form
    ∙ ap certificate_text (compact-one me.format me.version me.labels me.root root c.laws.ensures.table me.form c.in-One.is refl))
    c.in_ok-push_head.ensures
    (subst (λ (n : Node). Pushes g.S.Sink.sink g.S.Sink.began c.push_head.new.out c.compact_node.new.out (node_text (compacted nat_eq n)) c.compact_node.result)
    (root-at me.root c.nodes.result.now c.nodes.ensures) c.compact_node.ensures)

pub returns-in-Two : goal.returns-in-Two
returns-in-Two g c =
    let me = c.args.self.now.certificate.now in
    both-printed g.S.Sink.sink g.S.Sink.began c.args.out.now c.push_head.new.out c.push_nodes.new.out _ _ _ c.push_nodes.result
    (rw c.nodes-in-Two.ensures (whole_text 2 me.version me.labels me.root (width_of me.version) c.laws.ensures.table me.form)
    ∙ ap certificate_text (compact-two me.format me.version me.labels me.root me.root c.in-Two.is refl))
    c.in_ok-push_head.ensures c.push_nodes.ensures
