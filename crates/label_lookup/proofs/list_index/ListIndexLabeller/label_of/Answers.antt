use Rattle.std.proofs.Common.{◌∙◌, ◌^◌, ◌<◌, ap, subst, sym}
use Rattle.prefix_keys.specs.Block.{width_of}
use Rattle.prefix_keys.specs.declared.version.Version.{Version}
use Rattle.pmap_model.specs.ListModel.{ListModel, list_label}
use Rattle.pmap_model.specs.PrefixList.{list_of}
use Rattle.label_lookup.specs.Labelling.{Labelling, StretchModel}
use Rattle.label_lookup.proofs.Labellings.{same_at_addresses}
use Rattle.label_lookup.proofs.Tops.{label_found}
use Rattle.label_lookup.proofs.list_index.ListIndexLabeller.label_of.Goals as goal

pub find_near-index-requires : goal.find_near-index-requires
find_near-index-requires c =
    let same = c.requires ∙ sym (ap (λ (m : ListModel). m.version) c.self.view_is) ∙ sym (ap (λ (k : Labelling). k.version) c.self.invariant) in
    subst (λ (v : Version). c.args.addr.value < 2 ^ width_of v) same c.args.addr.in_range

pub returns-clause-value : goal.returns-clause-value
returns-clause-value c =
    let l = list_of c.self.inside.list.now in
    let m : StretchModel = record { table = c.self.inside.list.now.labels; stretches = c.self.inside.stretches } in
    let a = c.args.addr.value in
    let of_list = c.requires ∙ sym (ap (λ (m : ListModel). m.version) c.self.view_is) in
    let of_runs = of_list ∙ sym (ap (λ (k : Labelling). k.version) c.self.invariant) in
    let below : a < 2 ^ width_of l.version = subst (λ (v : Version). a < 2 ^ width_of v) of_list c.args.addr.in_range in
    let inside : a < 2 ^ width_of m.stretches.version = subst (λ (v : Version). a < 2 ^ width_of v) of_runs c.args.addr.in_range in
    c.text_at.ensures.value
    ∙ label_found m c.laws.ensures.every a c.find_near-index.result c.find_near-index.ensures.holds inside
    ∙ ap (λ (k : Labelling). k.label a) c.self.invariant
    ∙ sym (same_at_addresses l.version (list_label l) a below)
    ∙ ap (λ (m : ListModel). list_label m a) c.self.view_is
