use Rattle.std.proofs.Common.{Some}
use Rattle.pmap_model.specs.MapModel.{map_label}
use Rattle.pmap_model.specs.MapText.{map_of}
use Rattle.pmap_stretches.specs.Stretches.{text_held}
use Rattle.label_lookup.proofs.Labellings.{alike}
use Rattle.label_lookup.proofs.stretch_index.StretchIndex.of_map.Goals as goal

pub returns : goal.returns
returns c =
    let map = c.args.map.now in
    let version = c.in_ok-runs.ensures.version in
    rw version (alike map.version (text_held map.labels c.in_ok-runs.runs.stretches) (λ a. Some (map_label (map_of map) a)) c.in_ok-runs.ensures.labels)
