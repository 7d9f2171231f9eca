use Rattle.std.proofs.Common.{◌∙◌, ap, map, reverse}
use Rattle.pmap_cert.specs.Packed.{Store, line_in}
use Rattle.pmap_cert.proofs.PackedLines.{map-reverse}
use Rattle.pmap_cert.proofs.nodes.Nodes.reverse.Goals as goal

pub returns : goal.returns
returns c =
    let store : Store = record { sets = c.self.inside.sets.items; chains = c.self.inside.chains.items } in
    ap (λ ps. map (line_in store) ps) c.reverse.ensures.items ∙ map-reverse (line_in store) c.self.inside.lines.items ∙ ap reverse c.self.view_is
