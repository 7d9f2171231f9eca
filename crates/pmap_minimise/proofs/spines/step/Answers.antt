use Rattle.std.proofs.Common.{◌≡◌, arith, inl, inr, refl, true≢false, sym, ◌∙◌}
use Rattle.pmap_stretches.specs.Stretches.{StretchesModel}
use Rattle.pmap_stretches.specs.Windows.{AreHalvesOf}
use Rattle.pmap_stretches.specs.declared.stretches.window.Window.{Window}
use Rattle.pmap_stretches.proofs.Windows.{window_some}
use Rattle.pmap_minimise.specs.Spines.{AreCountedHalves, IsCounted}
use Rattle.pmap_minimise.proofs.MadeNodes.{counted-halves}
use Rattle.pmap_minimise.proofs.spines.step.Goals as goal

counted : (s : StretchesModel) (w low high : Window) → IsCounted s w → (w.from ≡ w.to → ⊥) → AreHalvesOf s w low high → AreCountedHalves s w low high
counted s w low high is other = let order = is.window.ordered in counted-halves s w is (omega arith) low high

pub halves-requires-clause-some : goal.halves-requires-clause-some
halves-requires-clause-some c = window_some c.args.stretches.now c.requires.few.stretches.every c.args.window.now c.requires.window c.if-window.false

pub returns-then-has_side : goal.returns-then-has_side
returns-then-has_side c = record {
  low = c.halves.result.0;
  high = c.halves.result.1;
  halves = counted c.args.stretches.now c.args.window.now _ _ c.requires c.if-window.false c.halves.ensures;
  choice = inl (refl, c.has_side.ensures.0 c.if-has_side.true);
}

pub returns-then-has_side-2 : goal.returns-then-has_side-2
returns-then-has_side-2 c = record {
  low = c.halves.result.0;
  high = c.halves.result.1;
  halves = counted c.args.stretches.now c.args.window.now _ _ c.requires c.if-window.false c.halves.ensures;
  choice = inr (refl, λ own. absurd (true≢false (sym (c.has_side.ensures.1 own) ∙ c.if-has_side.false)), c.has_side-else-has_side.ensures.0 c.if-has_side-2.true);
}

pub returns-else-has_side-2 : goal.returns-else-has_side-2
returns-else-has_side-2 c = inr (record {
  low = c.halves.result.0;
  high = c.halves.result.1;
  halves = counted c.args.stretches.now c.args.window.now _ _ c.requires c.if-window.false c.halves.ensures;
  low_other = λ own. absurd (true≢false (sym (c.has_side.ensures.1 own) ∙ c.if-has_side.false));
  high_other = λ own. absurd (true≢false (sym (c.has_side-else-has_side.ensures.1 own) ∙ c.if-has_side-2.false));
})
