use Rattle.std.proofs.Common.{◌∙◌, ◌∷◌, ◌++◌, List, ℕ, ap, length, sym}
use Rattle.prefix_keys.specs.Block.{width_of}
use Rattle.pmap_cert.specs.CertificateText.{certificate_text, format_header, text_of_lines}
use Rattle.pmap_cert.specs.Opened.{Opens, node_text}
use Rattle.pmap_cert.proofs.Printed.{same-printed}
use Rattle.pmap_cert.proofs.Written.{whole_text}
use Rattle.pmap_cert.proofs.opened.OpenedTextPrintable.print.Goals as goal

pub returns : goal.returns
returns g c =
    let me = c.args.self.now.compact in
    let head : List ℕ = text_of_lines (format_header (1, (me.version, length me.labels)) ∷ me.labels) in
    same-printed g.S.Sink.sink g.S.Sink.began c.args.out.now c.push_head.new.out c.push_node.new.out head node_text (Opens me.root) _ c.push_node.result c.requires.1.node c.requires.1.opens
    (λ more same d opening. ap (λ (t : List ℕ). head ++ t) (same opening.node opening.opens)
    ∙ whole_text 1 me.version me.labels opening.node (width_of me.version) c.laws.ensures.table opening.form ∙ ap certificate_text (sym opening.is))
    c.in_ok-push_head.ensures (rw c.at_root.ensures at c.push_node.ensures.text)
