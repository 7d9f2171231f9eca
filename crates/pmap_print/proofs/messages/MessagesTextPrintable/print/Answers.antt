use Rattle.std.proofs.Common.{◌∙◌, List, ℕ, [], ◌∷◌, ◌++◌, ap, append_assoc, get_or, lit<, sym}
use Rattle.std.specs.List.{flat_map, join_with_byte}
use Rattle.std.proofs.lemmas.List.{append-nil}
use Rattle.pmap_print.specs.declared.messages.MessageLine.{MessageLine}
use Rattle.pmap_print.specs.Messages.{fields_of, message_titles}
use Rattle.pmap_print.specs.Table.{Line, line_text}
use Rattle.pmap_print.proofs.MessageLines.{first_lines, line_added, no_line}
use Rattle.pmap_print.proofs.TableLines.{plain_added}
use Rattle.pmap_print.proofs.messages.MessagesTextPrintable.print.Goals as goal

pub loop-line-init : goal.loop-line-init
loop-line-init g c =
    let front : List ℕ = (g.S.Sink.sink c.args.out.now).printed in (
      ap (λ (l : List ℕ). l ++ 10 ∷ []) c.in_ok-push.ensures.0 ∙ append_assoc front (join_with_byte 124 message_titles) (10 ∷ [])
          ∙ ap (λ (l : List ℕ). front ++ l) (sym (append-nil (line_text message_titles))),
      c.in_ok-push.ensures.1,
      c.in_ok-push.ensures.2,
    )

pub loop-line-preserved : goal.loop-line-preserved
loop-line-preserved g c =
    let front : List ℕ = (g.S.Sink.sink c.args.out.now).printed in
    let lines : List MessageLine = c.args.self.now.lines.now in
    let i : ℕ = c.loop-line.line-index in
    let pushed = c.in_ok-print_line.ensures in
    let so_far = c.loop-line.invariant in (
      plain_added front _ _ (first_lines lines i) (fields_of (get_or lines i no_line)) (lit< tt) so_far.0 pushed.0
          ∙ ap (λ (ls : List Line). front ++ flat_map line_text ls) (line_added lines i no_line c.loop-line-test.true),
      pushed.1 ∙ so_far.1,
      λ first h. pushed.2 first (so_far.2 first h),
    )
