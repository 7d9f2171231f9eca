use Rattle.std.proofs.Common.{◌≡◌, ◌≢◌, ◌∙◌, true, refl, sym, arith}
use Rattle.label_lookup.specs.Labelling.{label_where, labelling_borrowed}
use Rattle.flow_filter.specs.Options.{FilterOption, is_on_labels, AnyLabel, DestinationLabel, SourceLabel}
use Rattle.flow_filter.proofs.Reading.{meets_one}
use Rattle.flow_filter.proofs.filter.Part.meets_label.Goals as goal

is_any : (o : FilterOption) → is_on_labels o ≡ true → o ≢ SourceLabel → o ≢ DestinationLabel → o ≡ AnyLabel
is_any SourceLabel is other _ = absurd (other refl)
is_any DestinationLabel is _ other = absurd (other refl)
is_any AnyLabel is _ _ = refl
is_any o is _ _ = absurd (cc)

pub returns-in-SourceLabel : goal.returns-in-SourceLabel
returns-in-SourceLabel g c =
    let label = label_where (labelling_borrowed g.L.Labeller.version_of g.L.Labeller.label c.args.labeller) in
    let has = rw (c.src.ensures.version, c.src.ensures.value) at c.has_label.ensures in
    rw (← c.self.view_is, c.in-SourceLabel.is) (has ∙ sym (meets_one SourceLabel c.self.inside.text.now label c.args.row.now refl))

pub returns-in-DestinationLabel : goal.returns-in-DestinationLabel
returns-in-DestinationLabel g c =
    let label = label_where (labelling_borrowed g.L.Labeller.version_of g.L.Labeller.label c.args.labeller) in
    let has = rw (c.dst.ensures.version, c.dst.ensures.value) at c.has_label-in-DestinationLabel.ensures in
    rw (← c.self.view_is, c.in-DestinationLabel.is) (has ∙ sym (meets_one DestinationLabel c.self.inside.text.now label c.args.row.now refl))

pub returns-then-has_label : goal.returns-then-has_label
returns-then-has_label g c =
    let label = label_where (labelling_borrowed g.L.Labeller.version_of g.L.Labeller.label c.args.labeller) in
    let any = is_any c.self.inside.option (rw (← c.self.view_is) at c.requires) c.in_default.not-SourceLabel c.in_default.not-DestinationLabel in
    let first = rw (c.src-in_default.ensures.version, c.src-in_default.ensures.value) at c.has_label-in_default.ensures in
    rw (← c.self.view_is, any) (grind (arith, first, meets_one AnyLabel c.self.inside.text.now label c.args.row.now refl))

pub returns-else-has_label : goal.returns-else-has_label
returns-else-has_label g c =
    let label = label_where (labelling_borrowed g.L.Labeller.version_of g.L.Labeller.label c.args.labeller) in
    let any = is_any c.self.inside.option (rw (← c.self.view_is) at c.requires) c.in_default.not-SourceLabel c.in_default.not-DestinationLabel in
    let first = rw (c.src-in_default.ensures.version, c.src-in_default.ensures.value) at c.has_label-in_default.ensures in
    let second = rw (c.dst-else-has_label.ensures.version, c.dst-else-has_label.ensures.value) at c.has_label-else-has_label.ensures in
    rw (← c.self.view_is, any) (grind (arith, first, second, meets_one AnyLabel c.self.inside.text.now label c.args.row.now refl))
