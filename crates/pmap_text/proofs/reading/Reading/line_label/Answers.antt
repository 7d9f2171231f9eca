use Rattle.std.proofs.Common.{List, ap, ◌∙◌}
use Rattle.std.proofs.lemmas.Result.{on_ok_weaker}
use Rattle.pmap_text.specs.Declarations.{meant_text}
use Rattle.pmap_model.specs.Label.{with_label}
use Rattle.pmap_model.specs.MapModel.{Label}
use Rattle.pmap_text.specs.Progress.{progress_of}
use Rattle.pmap_text.specs.Reading.{Earlier}
use Rattle.pmap_text.proofs.ProgressSteps.{progress-with_label}
use Rattle.pmap_text.proofs.reading.Reading.line_label.Goals as goal

pub returns-clause-ok : goal.returns-clause-ok
returns-clause-ok c =
    let r = c.self.inside in
    let grown = progress-with_label r.version r.name r.declared r.default r.statements r.entries r.labels (meant_text r.declared c.args.rest.now) c.self.invariant in
    on_ok_weaker c.number_for.result (λ to. ap (λ (t : List Label). progress_of r.version r.name r.declared r.default r.statements r.entries t) (to ∙ ap (with_label r.labels) c.meant-text.ensures.value)
    ∙ grown ∙ ap (λ (e : Earlier). record e { table = with_label e.table (meant_text e.declared c.args.rest.now) }) c.self.view_is) c.number_for.ensures.ok
