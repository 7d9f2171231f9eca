use Rattle.std.proofs.Common.{◌≡◌, arith, subst, sym, ◌∙◌, Option}
use Rattle.pmap_text.specs.Progress.{IsProgress}
use Rattle.pmap_text.specs.Reading.{unknown}
use Rattle.pmap_text.specs.Inner.{map_from}
use Rattle.pmap_model.specs.declared.label.LabelId.{LabelId}
use Rattle.pmap_text.proofs.ProgressSteps.{finished, finished-known, finished-unknown, length-with_label, version-decided}
use Rattle.pmap_text.proofs.reading.Reading.into_map.Goals as goal
use Rattle.pmap_text.proofs.reading.Reading.into_map.Goals.{in-Some, in-None+in_ok-default-in-None}

pub invariant_of-result-clause-one_version : goal.invariant_of-result-clause-one_version
invariant_of-result-clause-one_version c =
    λ k d within. version-decided _ _ (c.self.invariant.spans k d within) ∙ sym c.unwrap_or.ensures

pub invariant_of-result-clause-numbers_known : goal.invariant_of-result-clause-numbers_known
invariant_of-result-clause-numbers_known c =
    λ k d within.
    let known = c.self.invariant.numbers k d within in
    elim c.match-default.branch [
      | in-Some w ↦ rw w.labels-is known
      | in-None+in_ok-default-in-None w ↦ rw (w.labels-is, w.in_ok-default-in-None.ensures.ok) (omega (arith, known, length-with_label c.self.inside.labels unknown))
    ]

pub returns : goal.returns
returns c =
    let r = c.self.inside in
    let whole : finished r.version r.name r.declared r.default r.statements r.entries r.labels c.match-default.default c.match-default.labels ≡ map_from c.args.self = elim c.match-default.branch [
      | in-Some w ↦
          rw (w.labels-is, w.default-is, ← c.self.view_is, w.in-Some.is)
          (finished-known r.version r.name r.declared r.default r.statements r.entries r.labels w.in-Some.label (c.self.invariant.fallback w.in-Some.label w.in-Some.is))
      | in-None+in_ok-default-in-None w ↦
          let ok = subst (λ (d : Option LabelId). IsProgress r.version d r.statements r.entries r.labels) w.in-None.is c.self.invariant in
          let to = w.in_ok-default-in-None.ensures.ok in
          rw (w.labels-is, w.default-is, to, ← c.self.view_is, w.in-None.is) (finished-unknown r.version r.name r.declared r.default r.statements r.entries r.labels w.in_ok-default-in-None.default ok (rw to at w.in_ok-default-in-None.ensures.text))
    ] in rw c.unwrap_or.ensures whole
