use Rattle.pmap_model.specs.ListModel.{list_label}
use Rattle.pmap_model.specs.PrefixList.{list_of}
use Rattle.pmap_stretches.specs.Stretches.{text_held}
use Rattle.label_lookup.proofs.Labellings.{alike}
use Rattle.label_lookup.proofs.stretch_index.StretchIndex.of_list.Goals as goal

pub returns : goal.returns
returns c =
    let list = c.args.list.now in
    let version = c.in_ok-runs.ensures.version in
    rw version (alike list.version (text_held list.labels c.in_ok-runs.runs.stretches) (list_label (list_of list)) c.in_ok-runs.ensures.labels)
