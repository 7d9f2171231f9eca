use Rattle.std.proofs.Common.{inl, inr}
use Rattle.pmap_cert.specs.Packed.{line_of}
use Rattle.pmap_cert.proofs.CompactPlaces.{label-at}
use Rattle.pmap_cert.proofs.compacting.leaf_label.Goals as goal

pub returns-in-Inner : goal.returns-in-Inner
returns-in-Inner c =
    let same = label-at c.args.nodes.now c.args.number (line_of c.node.result) c.requires.plain c.requires.within c.node.ensures in
    elim c.in-Inner.is [
      | inl x ↦ rw (x.1) at same
      | inr x ↦ rw (x.3) at same
    ]
