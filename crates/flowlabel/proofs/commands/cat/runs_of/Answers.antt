use Rattle.std.proofs.Common.{ℕ, Option, Some}
use Rattle.pmap_model.specs.ListModel.{list_label}
use Rattle.pmap_model.specs.MapModel.{Label, map_label}
use Rattle.pmap_model.specs.MapText.{map_of}
use Rattle.pmap_model.specs.PrefixList.{list_of}
use Rattle.pmap_stretches.specs.Stretches.{text_held}
use Rattle.label_lookup.proofs.Labellings.{same_at_addresses}
use Rattle.flowlabel.proofs.commands.cat.runs_of.Goals as goal

pub returns-in_ok-of_map-in-Map : goal.returns-in_ok-of_map-in-Map
returns-in_ok-of_map-in-Map c =
    let map = c.in-Map.map in
    let runs = c.in_ok-of_map-in-Map in
    let alike = c.labelling_has_one_runs_text.ensures.alike in
    let label : ℕ → Option Label = λ a. Some (map_label (map_of map) a) in
    rw c.in-Map.is (
      runs.ensures.known,
      λ out is.
          alike map.version label _ out (same_at_addresses map.version label)
          (alike map.version (text_held map.labels runs.field-0.stretches) label out runs.ensures.labels (rw runs.ensures.version at is)),
    )

pub returns-in_ok-of_list-in-List : goal.returns-in_ok-of_list-in-List
returns-in_ok-of_list-in-List c =
    let list = c.in-List.list in
    let runs = c.in_ok-of_list-in-List in
    let alike = c.labelling_has_one_runs_text.ensures.alike in
    let label : ℕ → Option Label = list_label (list_of list) in
    rw c.in-List.is (
      runs.ensures.known,
      λ out is.
          alike list.version label _ out (same_at_addresses list.version label)
          (alike list.version (text_held list.labels runs.field-0.stretches) label out runs.ensures.labels (rw runs.ensures.version at is)),
    )
