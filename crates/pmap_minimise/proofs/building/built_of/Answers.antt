use Rattle.pmap_minimise.proofs.BuiltNodes.{whole-counted, whole-built}
use Rattle.pmap_minimise.proofs.building.built_of.Goals as goal

pub push_window-requires : goal.push_window-requires
push_window-requires c = whole-counted c.args.stretches _ c.requires c.whole.ensures.window c.whole.ensures.first c.whole.ensures.len

pub returns : goal.returns
returns c =
    whole-built c.args.stretches c.whole.result c.in_ok-nodes.nodes c.push_window.new.nodes c.of_reversed.result c.whole.ensures.first c.whole.ensures.len c.in_ok-nodes.ensures
    c.in_ok-push_window.ensures c.of_reversed.ensures
