use Rattle.std.proofs.Common.{◌≡◌, ◌∙◌, ℕ, ◌^◌, ◌<◌, ap, sym}
use Rattle.prefix_keys.specs.Block.{width_of}
use Rattle.prefix_keys.specs.declared.version.Version.{Version}
use Rattle.pmap_stretches.specs.Stretches.{text_held}
use Rattle.label_lookup.specs.Labelling.{StretchModel, labelling}
use Rattle.label_lookup.proofs.Tops.{label_found, read_begins, read_below, read_ends, read_order}
use Rattle.label_lookup.proofs.stretch_index.StretchIndexLabeller.label_of.Goals as goal

-- the address is of the version of the stretches
same_version : (m inside : StretchModel) (v : Version) → inside ≡ m → v ≡ m.stretches.version → v ≡ inside.stretches.version
same_version m inside v view same = same ∙ sym (ap (λ (x : StretchModel). x.stretches.version) view)

fits_version : (v w : Version) (a : ℕ) → v ≡ w → a < 2 ^ width_of v → a < 2 ^ width_of w
fits_version v w a same fits = rw (← same) fits

pub find-index-requires : goal.find-index-requires
find-index-requires c =
    let s = c.self.inside.stretches in
    let tops = c.self.inside.tops.items in
    let same = same_version c.args.self.now _ c.args.addr.version c.self.view_is c.requires in
    let fits = fits_version _ _ _ same c.args.addr.in_range in
    let width = c.width.ensures ∙ ap width_of same in
    record {
      order = read_order s c.laws.ensures.every tops c.self.invariant c.args.addr.value fits c.width.result _ _ width c.index-from.ensures c.index-to.ensures;
      index = read_below s c.laws.ensures.every tops c.self.invariant c.args.addr.value fits c.width.result _ _ width c.index-from.ensures c.index-to.ensures;
      above = read_begins s c.laws.ensures.every tops c.self.invariant c.args.addr.value fits c.width.result _ _ width c.index-from.ensures c.index-to.ensures;
      below = read_ends s c.laws.ensures.every tops c.self.invariant c.args.addr.value fits c.width.result _ _ width c.index-from.ensures c.index-to.ensures;
    }

pub returns-clause-value : goal.returns-clause-value
returns-clause-value c =
    let m : StretchModel = record { table = c.self.inside.labels.now; stretches = c.self.inside.stretches } in
    let same = same_version c.args.self.now m c.args.addr.version c.self.view_is c.requires in
    c.text_at.ensures.value
    ∙ label_found m c.laws.ensures.every c.args.addr.value c.find-index.result c.find-index.ensures.holds (fits_version _ _ _ same c.args.addr.in_range)
    ∙ ap (λ (x : StretchModel). (labelling x.stretches.version (text_held x.table x.stretches)).label c.args.addr.value) c.self.view_is
