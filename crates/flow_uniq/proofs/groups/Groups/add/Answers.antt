use Rattle.std.proofs.Common.{◌∙◌, ◌+◌, ℕ, List, length, ap, arith, subst}
use Rattle.std.proofs.lemmas.List.{length-map}
use Rattle.label_lookup.specs.Labelling.{label_where, labelling_borrowed}
use Rattle.flow_uniq.specs.Key.{KeyField, key_of, key_part}
use Rattle.flow_uniq.specs.Groups.{GroupsModel, record_count}
use Rattle.flow_uniq.specs.Codes.{key_in}
use Rattle.flow_uniq.specs.Inner.{HasRow}
use Rattle.flow_uniq.proofs.Entering.{after_row, then_groups}
use Rattle.flow_uniq.proofs.groups.Groups.add.Goals as goal

pub add_row-requires-clause-kept : goal.add_row-requires-clause-kept
add_row-requires-clause-kept g c =
    (length c.self.inside.fields.items, c.self.invariant, omega (arith, c.requires, ap (λ (v : GroupsModel). record_count v.groups) c.self.view_is))

pub invariant_of-self-2 : goal.invariant_of-self-2
invariant_of-self-2 g c =
    (after_row (length c.self.inside.fields.items) (key_in c.write_key.new.out.items) c.args.row.now c.in_ok-write_key.ensures.code.small
    c.self.inside.totals.entries c.add_row.new.totals.entries c.self.invariant
    (subst (λ (b : List ℕ). HasRow (key_in b) c.args.row.now c.self.inside.totals.entries c.add_row.new.totals.entries)
    c.as_slice-key.ensures.value c.in_ok-add_row.ensures.ok)).kept
    (ap length c.in_ok-write_key.ensures.key ∙ length-map c.as_slice.result.now (key_part (label_where (labelling_borrowed g.L.Labeller.version_of g.L.Labeller.label c.args.labeller)) c.args.row.now)
    ∙ ap length c.as_slice.ensures.value)

pub returns-clause-ok : goal.returns-clause-ok
returns-clause-ok g c = λ rows e.
    then_groups rows (key_in c.write_key.new.out.items) _ c.args.row.now _ _ _
    (after_row (length c.self.inside.fields.items) (key_in c.write_key.new.out.items) c.args.row.now c.in_ok-write_key.ensures.code.small
    c.self.inside.totals.entries c.add_row.new.totals.entries c.self.invariant
    (subst (λ (b : List ℕ). HasRow (key_in b) c.args.row.now c.self.inside.totals.entries c.add_row.new.totals.entries)
    c.as_slice-key.ensures.value c.in_ok-add_row.ensures.ok)).groups
    (c.in_ok-write_key.ensures.key ∙ ap (λ (fs : List KeyField). key_of (label_where (labelling_borrowed g.L.Labeller.version_of g.L.Labeller.label c.args.labeller)) fs c.args.row.now)
    (c.as_slice.ensures.value ∙ ap (λ (v : GroupsModel). v.fields) c.self.view_is))
    (ap (λ (v : GroupsModel). v.groups) c.self.view_is) e

pub returns-clause-count : goal.returns-clause-count
returns-clause-count g c =
    (after_row (length c.self.inside.fields.items) (key_in c.write_key.new.out.items) c.args.row.now c.in_ok-write_key.ensures.code.small
    c.self.inside.totals.entries c.add_row.new.totals.entries c.self.invariant
    (subst (λ (b : List ℕ). HasRow (key_in b) c.args.row.now c.self.inside.totals.entries c.add_row.new.totals.entries)
    c.as_slice-key.ensures.value c.in_ok-add_row.ensures.ok)).count
    ∙ ap (λ (v : GroupsModel). record_count v.groups + 1) c.self.view_is
