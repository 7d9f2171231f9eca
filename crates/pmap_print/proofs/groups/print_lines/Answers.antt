use Rattle.std.proofs.Common.{ℕ, ◌∙◌, List, ◌++◌, ap, arith, map, option_map, sym}
use Rattle.std.specs.List.{flat_map}
use Rattle.std.proofs.lemmas.List.{append-nil}
use Rattle.flow_uniq.specs.declared.field.KeyField.{KeyField}
use Rattle.flow_uniq.specs.Groups.{GroupModel}
use Rattle.flow_uniq.specs.Inner.{group_model}
use Rattle.pmap_print.specs.Reports.{group_fields, group_titles, ordered}
use Rattle.pmap_print.specs.Table.{Line, filled_by, line_text}
use Rattle.pmap_print.proofs.FilledLines.{filled_added}
use Rattle.pmap_print.proofs.GroupLines.{all_shown, first_lines, line_added, not_past}
use Rattle.pmap_print.proofs.groups.print_lines.Goals as goal
use Rattle.pmap_print.proofs.groups.print_lines.Goals.{in-Some+in_ok-print_group, in_default}

pub loop-index-init : goal.loop-index-init
loop-index-init g c =
    let front : List ℕ = (g.S.Sink.sink c.args.out.now).printed in
    let line : List KeyField → List ℕ = λ fs. line_text (filled_by c.args.widths.now (group_titles fs)) in (
      c.in_ok-print_header.ensures.0 ∙ ap (λ (fs : List KeyField). front ++ line fs) c.fields.ensures.value
          ∙ ap (λ (l : List ℕ). front ++ l) (sym (append-nil (line c.args.groups.now.fields))),
      c.in_ok-print_header.ensures.1,
      c.in_ok-print_header.ensures.2,
    )

pub loop-index-preserved : goal.loop-index-preserved
loop-index-preserved g c =
    let front : List ℕ = (g.S.Sink.sink c.args.out.now).printed in
    let fields : List KeyField = c.args.groups.now.fields in
    let shown : List GroupModel = ordered c.args.sorted.now c.args.groups.now in
    let i : ℕ = c.loop-index.index in
    let so_far = c.loop-index.invariant in
    elim c.match-group_at.branch [
      | in-Some+in_ok-print_group w ↦
          let group : GroupModel = group_model w.in-Some.group in
          let out = w.out-is in
          let pushed = w.in_ok-print_group.ensures in
          rw out (
            filled_added front _ _ c.args.widths.now (first_lines fields shown i) _ (group_fields group) so_far.0 pushed.0
                (line_added fields shown i group (sym w.in-Some.ensures)),
            pushed.1 ∙ so_far.1,
            λ first h. pushed.2 first (so_far.2 first h),
          )
      | in_default w ↦
          absurd (not_past fields _ shown c.requires i (omega (arith, c.loop-index-test.true, c.group_count-index-end.ensures))
          (sym c.group_at.ensures ∙ ap (option_map group_model) w.in_default.is))
    ]

pub returns : goal.returns
returns g c =
    let front : List ℕ = (g.S.Sink.sink c.args.out.now).printed in
    let so_far = c.loop-index.invariant in (
      so_far.0
          ∙ ap (λ (ls : List Line). front ++ flat_map line_text (map (filled_by c.args.widths.now) ls))
          (all_shown c.args.groups.now.fields _ _ c.requires c.loop-index.index (omega (arith, c.loop-index-test.false, c.group_count-index-end.ensures))),
      so_far.1,
      so_far.2,
    )
