use Rattle.std.proofs.Common.{length}
use Rattle.prefix_keys.specs.Block.{width_of}
use Rattle.prefix_keys.proofs.Groups.{width-le}
use Rattle.pmap_cert.proofs.CompactPlaces.{plain-of}
use Rattle.pmap_cert.proofs.compacting.CompactText.new.Goals as goal

pub ends_of-requires : goal.ends_of-requires
ends_of-requires c =
    let me = c.args.certificate.now in
    plain-of me.root c.nodes.result.now c.nodes.ensures (me.kind c.in-One.is) (length me.labels, width_of me.version, width-le me.version, me.form)
