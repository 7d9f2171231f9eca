use Rattle.std.proofs.Common.{◌∙◌, sym}
use Rattle.label_lookup.specs.Labelling.{label_where, labelling_borrowed}
use Rattle.flow_filter.specs.Filters.{in_ranges}
use Rattle.flow_filter.proofs.filter.Part.meets.Goals as goal

pub returns : goal.returns
returns g c =
    let label = label_where (labelling_borrowed g.L.Labeller.version_of g.L.Labeller.label c.args.labeller) in
    rw (← c.self.view_is)
    (c.covers.ensures ∙ (λ i. in_ranges (c.as_slice.ensures.value i) (c.number_of-number.ensures i))
    ∙ sym (c.self.invariant.numbers (sym c.is_on_labels.ensures ∙ c.if-is_on_labels.false) label c.args.row.now))

pub covers-requires : goal.covers-requires
covers-requires g c = rw c.as_slice.ensures.value (c.self.invariant.ascending (sym c.is_on_labels.ensures ∙ c.if-is_on_labels.false))
