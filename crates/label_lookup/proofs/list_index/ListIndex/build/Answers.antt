use Rattle.pmap_model.specs.ListModel.{list_label}
use Rattle.pmap_model.specs.PrefixList.{list_of}
use Rattle.pmap_stretches.specs.Stretches.{text_held}
use Rattle.label_lookup.proofs.Labellings.{alike}
use Rattle.label_lookup.proofs.list_index.ListIndex.build.Goals as goal

pub invariant_of-result : goal.invariant_of-result
invariant_of-result c =
    let list = c.args.list.now in
    let version = c.in_ok-runs.ensures.version in
    rw version (alike list.version (text_held list.labels c.in_ok-runs.runs.stretches) (list_label (list_of list)) c.in_ok-runs.ensures.labels)
