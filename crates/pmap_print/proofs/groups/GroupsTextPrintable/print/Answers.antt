use Rattle.std.proofs.Common.{◌∙◌, ◌++◌, List, ap, is_some, map, refl, sym, ℕ}
use Rattle.std.specs.List.{flat_map}
use Rattle.pmap_print.specs.Table.{Line, filled_by, line_text, table_text}
use Rattle.pmap_print.specs.Reports.{group_lines, ordered}
use Rattle.pmap_print.proofs.FilledLines.{filled_by-none, filled_table}
use Rattle.pmap_print.proofs.groups.GroupsTextPrintable.print.Goals as goal

pub returns-in-Some : goal.returns-in-Some
returns-in-Some g c =
    let s = c.self.inside in
    let lines : List Line = group_lines s.groups.now.fields (ordered s.sorted s.groups.now) in
    let printed = c.in_ok-print_lines.ensures in (
      c.args.self.now,
      refl,
      (
        printed.0
            ∙ ap (λ (t : List ℕ). (g.S.Sink.sink c.args.out.now).printed ++ t)
            (ap (λ (ws : List ℕ). flat_map line_text (map (filled_by ws) lines)) c.widths.ensures
            ∙ ap (flat_map line_text) (filled_table _ lines c.in-Some.columns (c.self.invariant.1 c.in-Some.columns c.in-Some.is))
            ∙ ap (λ b. table_text b lines) (sym (ap is_some c.in-Some.is)) ∙ c.self.view_is),
        printed.1,
        printed.2,
      ),
    )

pub returns : goal.returns
returns g c =
    let s = c.self.inside in
    let lines : List Line = group_lines s.groups.now.fields (ordered s.sorted s.groups.now) in
    let printed = c.in_ok-print_lines-2.ensures in (
      c.args.self.now,
      refl,
      (
        printed.0
            ∙ ap (λ (t : List ℕ). (g.S.Sink.sink c.args.out.now).printed ++ t)
            (ap (flat_map line_text) (filled_by-none lines) ∙ ap (λ b. table_text b lines) (sym (ap is_some c.in_default.is)) ∙ c.self.view_is),
        printed.1,
        printed.2,
      ),
    )
