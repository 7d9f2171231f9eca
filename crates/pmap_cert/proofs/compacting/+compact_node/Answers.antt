use Rattle.std.proofs.Common.{◌∙◌, ap, map, get_or, List, ℕ, ◌++◌, ◌∷◌, [], nat_eq, subst, sym}
use Rattle.std.proofs.lemmas.List.{append-nil}
use Rattle.flow_io.specs.Sinks.{Pushes}
use Rattle.pmap_model.specs.declared.label.LabelId.{LabelId}
use Rattle.pmap_cert.specs.CertificateText.{node_line_text, text_of_lines}
use Rattle.pmap_cert.specs.Compacting.{compacted}
use Rattle.pmap_cert.specs.FormatReading.{DueLine, LeafLine}
use Rattle.pmap_cert.specs.Node.{node_lines}
use Rattle.pmap_cert.specs.Packed.{bits_in}
use Rattle.pmap_cert.specs.Inner.{node_from}
use Rattle.pmap_cert.proofs.CompactNodes.{chain-lines, inner-lines, leaf-lines}
use Rattle.pmap_cert.proofs.CompactPlaces.{line-of}
use Rattle.pmap_cert.proofs.OpenedTexts.{lines-text}
use Rattle.pmap_cert.proofs.Printed.{printed-then}
use Rattle.pmap_cert.proofs.compacting.+compact_node.Goals as goal

abbrev text_of : List DueLine → List ℕ
text_of lines = text_of_lines (map node_line_text lines)

pub returns-in_default : goal.returns-in_default
returns-in_default g t c =
    let lines = c.args.nodes.now in
    subst (λ (text : List ℕ). Pushes g.S.Sink.sink g.S.Sink.began c.args.out.now c.push_line.new.out text c.push_line.result)
    (sym (append-nil _)
    ∙ ap text_of
    (ap (λ (l : DueLine). l ∷ []) (c.node.ensures ∙ line-of lines c.args.number c.requires.plain c.requires.within)
    ∙ leaf-lines (node_from lines c.args.number) c.in_default.ensures)) c.push_line.ensures

pub returns-in_ok-push_line-in-Some-spine_of : goal.returns-in_ok-push_line-in-Some-spine_of
returns-in_ok-push_line-in-Some-spine_of g t c =
    let lines = c.args.nodes.now in
    let halves = rw c.in-Some.is at c.halves_of.ensures in
    let long = rw c.in-Some-spine_of.is at c.spine_of.ensures in
    let spine = long.spine in
    subst (λ (ls : List DueLine). Pushes g.S.Sink.sink g.S.Sink.began c.args.out.now c.compact_node.new.out (text_of ls) c.compact_node.result)
    (chain-lines (node_from lines c.args.number) halves.claim (node_from lines c.in-Some.halves.0) (node_from lines c.in-Some.halves.1) halves.node
    c.in-Some-spine_of.side.0 (get_or lines c.args.number (LeafLine 0)) c.claim.result.cost (map (λ (id : LabelId). id.0) c.claim.result.set.now)
    (bits_in c.in-Some-spine_of.path) (node_from lines c.in-Some-spine_of.end) long.sides spine.bits_are spine.node long.long
    (line-of lines c.args.number c.requires.plain c.requires.within) c.claim.ensures.cost c.claim.ensures.set)
    (printed-then g.S.Sink.sink g.S.Sink.began c.args.out.now c.push_line-in-Some-spine_of.new.out c.compact_node.new.out _ _ c.compact_node.result c.in_ok-push_line-in-Some-spine_of.ensures c.compact_node.ensures)

pub returns-in_ok-compact_node-in-None : goal.returns-in_ok-compact_node-in-None
returns-in_ok-compact_node-in-None g t c =
    let lines = c.args.nodes.now in
    let halves = rw c.in-Some.is at c.halves_of.ensures in
    let lower = node_lines (compacted nat_eq (node_from lines c.in-Some.halves.0)) in
    let upper = node_lines (compacted nat_eq (node_from lines c.in-Some.halves.1)) in
    let line = c.push_line-in-None.new.out in
    let first = c.compact_node-in-None.new.out in
    let last = c.compact_node-in-None-2.new.out in
    let result = c.compact_node-in-None-2.result in
    subst (λ (ls : List DueLine). Pushes g.S.Sink.sink g.S.Sink.began c.args.out.now last (text_of ls) result)
    (ap (λ (l : DueLine). l ∷ (lower ++ upper)) (c.node-in-None.ensures ∙ line-of lines c.args.number c.requires.plain c.requires.within)
    ∙ inner-lines (node_from lines c.args.number) halves.claim (node_from lines c.in-Some.halves.0) (node_from lines c.in-Some.halves.1) halves.node
    (rw c.in-None.is at c.spine_of.ensures))
    (printed-then g.S.Sink.sink g.S.Sink.began c.args.out.now line last _ (text_of (lower ++ upper)) result c.in_ok-push_line-in-None.ensures
    (subst (λ (text : List ℕ). Pushes g.S.Sink.sink g.S.Sink.began line last text result) (sym (lines-text lower upper))
    (printed-then g.S.Sink.sink g.S.Sink.began line first last (text_of lower) (text_of upper) result c.in_ok-compact_node-in-None.ensures c.compact_node-in-None-2.ensures)))
