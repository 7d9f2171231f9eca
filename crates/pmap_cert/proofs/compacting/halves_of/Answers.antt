use Rattle.std.proofs.Common.{◌∙◌, ap, arith, option_map, sym}
use Rattle.pmap_model.specs.declared.label.LabelId.{LabelId}
use Rattle.pmap_cert.proofs.CompactPlaces.{halves-of}
use Rattle.pmap_cert.proofs.compacting.halves_of.Goals as goal

pub bounds-ends-number : goal.bounds-ends-number
bounds-ends-number c =
    let none = sym c.leaf_label.ensures ∙ ap (option_map (λ (id : LabelId). id.0)) c.in-None.is in
    let halves = halves-of c.args.nodes.now c.args.ends.now c.args.number c.requires none in
    let inside = halves.low.within in
    let count = c.requires.ends.count in
    omega arith

pub returns-in-None : goal.returns-in-None
returns-in-None c =
    halves-of c.args.nodes.now c.args.ends.now c.args.number c.requires (sym c.leaf_label.ensures ∙ ap (option_map (λ (id : LabelId). id.0)) c.in-None.is)
