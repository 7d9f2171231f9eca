use Rattle.std.proofs.Common.{◌≡◌, ℕ, arith, ◌∙◌, ◌+◌, [], List, Some, ap, length, option_map, subst, sym}
use Rattle.std.specs.Prelude.{slice_get}
use Rattle.flow_uniq.specs.Groups.{GroupModel}
use Rattle.flow_uniq.specs.Inner.{group_model}
use Rattle.flow_uniq.specs.declared.field.KeyField.{KeyField}
use Rattle.pmap_print.specs.Reports.{group_fields, group_titles, ordered}
use Rattle.pmap_print.specs.Table.{AreWide, Columns, Line, widened}
use Rattle.pmap_print.proofs.FilledLines.{wide_line}
use Rattle.pmap_print.proofs.GroupLines.{all_shown, first_lines, length-group_titles, line_added, not_past, parts_at}
use Rattle.pmap_print.proofs.columns.Columns.of_groups.Goals as goal
use Rattle.pmap_print.proofs.columns.Columns.of_groups.Goals.{in-Some, in_default}

pub loop-index-init : goal.loop-index-init
loop-index-init c =
    let fields : List KeyField = c.args.groups.now.fields in
    let old : Columns = c.in_ok-columns.columns in
    let is = c.fields-fields.ensures.value in
    wide_line (length fields + 3) [] (group_titles fields) old c.add_titles.new.self
    (subst (λ (fs : List KeyField). AreWide (length fs + 3) [] old) is c.in_ok-columns.ensures) (length-group_titles fields)
    (c.add_titles.ensures ∙ ap (λ (fs : List KeyField). widened old.widths.items 0 (group_titles fs)) is)

pub add_group-requires : goal.add_group-requires
add_group-requires c =
    parts_at c.args.groups.now.fields _ _ c.requires c.loop-index.index c.fields-fields.ensures.parts _ (sym c.in-Some.ensures)
    ∙ sym c.loop-index.invariant.columns

pub loop-index-preserved : goal.loop-index-preserved
loop-index-preserved c =
    let fields : List KeyField = c.args.groups.now.fields in
    let count : ℕ = length fields + 3 in
    let shown : List GroupModel = ordered c.args.sorted.now c.args.groups.now in
    let i : ℕ = c.loop-index.index in
    elim c.match-group_at.branch [
      | in-Some w ↦
          let group : GroupModel = group_model w.in-Some.group in
          let at : slice_get shown i ≡ Some group = sym w.in-Some.ensures in
          subst (λ t. AreWide count (first_lines fields shown (i + 1)) t) (sym w.columns-is)
          (subst (λ (ls : List Line). AreWide count ls w.add_group.new.self) (line_added fields shown i group at)
          (wide_line count (first_lines fields shown i) (group_fields group) c.loop-index.columns w.add_group.new.self c.loop-index.invariant
          (parts_at fields _ shown c.requires i c.fields-fields.ensures.parts _ at) w.add_group.ensures))
      | in_default w ↦
          absurd (not_past fields _ shown c.requires i (omega (arith, c.loop-index-test.true, c.group_count-index-end.ensures))
          (sym c.group_at.ensures ∙ ap (option_map group_model) w.in_default.is))
    ]

pub returns : goal.returns
returns c =
    subst (λ (ls : List Line). AreWide (length c.args.groups.now.fields + 3) ls c.loop-index.columns)
    (all_shown c.args.groups.now.fields _ _ c.requires c.loop-index.index (omega (arith, c.loop-index-test.false, c.group_count-index-end.ensures)))
    c.loop-index.invariant
