use Rattle.std.proofs.Common.{◌≡◌, ◌∙◌, ℕ, List, [], ◌∷◌, map, refl, subst, sym}
use Rattle.std.specs.List.{AllZip, each_same}
use Rattle.smallvec.specs.SmallVec.{SmallVec}
use Rattle.pmap_model.specs.Label.{IsLabelTable}
use Rattle.pmap_model.proofs.labels.Labels.copy.Goals as goal

abbrev IsCloneOf : SmallVec ℕ → SmallVec ℕ → Type 0
IsCloneOf text clone = AllZip (λ x y. y ≡ x) text.items clone.items

-- clones of texts are the same texts
same_texts : (texts clones : List (SmallVec ℕ)) → AllZip IsCloneOf texts clones → map (λ text. text.items) clones ≡ map (λ text. text.items) texts
same_texts [] [] all = refl
same_texts [] (clone ∷ clones) all = absurd all
same_texts (text ∷ texts) [] all = absurd all
same_texts (text ∷ texts) (clone ∷ clones) all = λ i. each_same text.items clone.items all.0 i ∷ same_texts texts clones all.1 i

pub invariant_of-result : goal.invariant_of-result
invariant_of-result c = subst IsLabelTable (sym (same_texts _ _ c.in_ok-clone.ensures.cases)) c.self.invariant

pub returns : goal.returns
returns c = same_texts _ _ c.in_ok-clone.ensures.cases ∙ c.self.view_is
