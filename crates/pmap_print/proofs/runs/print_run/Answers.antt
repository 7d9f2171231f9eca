use Rattle.std.proofs.Common.{◌∙◌, ◌∷◌, ◌++◌, [], List, sym, ℕ}
use Rattle.prefix_keys.specs.Print.{address_text}
use Rattle.pmap_stretches.specs.RunsText.{line_text}
use Rattle.pmap_print.proofs.FilledLines.{filled_none, totals_printed}
use Rattle.pmap_print.proofs.runs.print_run.Goals as goal

pub returns : goal.returns
returns g c =
    let low = c.in_ok-push_address.ensures in
    let high = c.in_ok-push_address-2.ensures in
    let label = c.in_ok-push_field.ensures in
    let old : List ℕ = (g.S.Sink.sink c.args.out.now).printed in
    let version = c.version-version in (
      totals_printed old _ _ _ [] 0 0 0 (address_text version.result c.first.result) (address_text version.result c.last.result) c.label_text.result.now
          (λ p q r i. sym (filled_none p) i ∷ sym (filled_none q) i ∷ sym (filled_none r) i ∷ []) low.0 high.0 label.0
          ∙ (λ i. old ++ line_text (address_text (version.ensures i) (c.first.ensures i) ∷ address_text (version.ensures i) (c.last.ensures i)
          ∷ c.label_text.ensures i ∷ [])),
      label.1 ∙ high.1 ∙ low.1,
      λ first h. label.2 first (high.2 first (low.2 first h)),
    )
