use Rattle.std.proofs.Common.{◌≡◌, ◌∙◌, ◌++◌, ◌∷◌, [], ap, map, subst, sym}
use Rattle.std.proofs.lemmas.List.{map-append}
use Rattle.pmap_stretches.specs.Stretches.{label_kept, stretches_of, HasEveryAddress, StretchesModel, Narrow, Wide}
use Rattle.pmap_stretches.specs.declared.stretches.Begin.{Begin}
use Rattle.pmap_stretches.proofs.Ranges.{Adds, every_added}
use Rattle.pmap_stretches.proofs.stretches.Stretches.push.Goals as goal
use Rattle.pmap_stretches.proofs.stretches.Stretches.push.Goals.{in-Narrow+in_ok-push-in-Narrow, in-Wide+in_ok-reserve-in-Wide+in_ok-push-in-Wide+in_ok-push-in-Wide-2}

added : (c : goal.Joined-self) → Adds c.args.self.now c.args.first c.args.label (stretches_of c.match-self.self-inside.begins)
added c =
    elim c.match-self.branch [
      | in-Narrow+in_ok-push-in-Narrow w ↦
          let old : stretches_of (Narrow w.in-Narrow.begins) ≡ c.args.self.now = sym (ap stretches_of w.in-Narrow.is) ∙ c.self.view_is in
          let new : stretches_of c.match-self.self-inside.begins ≡ stretches_of (Narrow w.push.new.self) = ap (λ x. stretches_of x.begins) w.self-inside-is in
          let items = w.in_ok-push-in-Narrow.ensures.items in
          let begin : Begin = record { first = c.args.first; label = c.kept-label.result } in
          record {
            version = ap (λ (s : StretchesModel). s.version) (new) ∙ ap (λ (s : StretchesModel). s.version) old;
            firsts = ap (λ (s : StretchesModel). s.firsts) new ∙ ap (map (λ (b : Begin). b.first)) items
                ∙ map-append (λ (b : Begin). b.first) w.in-Narrow.begins.items (begin ∷ []) ∙ ap (λ (s : StretchesModel). s.firsts ++ c.args.first ∷ []) old;
            labels = ap (λ (s : StretchesModel). s.labels) new ∙ ap (map (λ (b : Begin). label_kept b.label)) items
                ∙ map-append (λ (b : Begin). label_kept b.label) w.in-Narrow.begins.items (begin ∷ [])
                ∙ ap (λ (s : StretchesModel). s.labels ++ label_kept c.kept-label.result ∷ []) old
                ∙ ap (λ l. c.args.self.now.labels ++ l ∷ []) c.kept-label.ensures;
          }
      | in-Wide+in_ok-reserve-in-Wide+in_ok-push-in-Wide+in_ok-push-in-Wide-2 w ↦
          let old : stretches_of (Wide w.in-Wide.firsts w.in-Wide.labels) ≡ c.args.self.now = sym (ap stretches_of w.in-Wide.is) ∙ c.self.view_is in
          let new : stretches_of c.match-self.self-inside.begins ≡ stretches_of (Wide w.push-in-Wide.new.self w.push-in-Wide-2.new.self) =
          ap (λ x. stretches_of x.begins) w.self-inside-is in
          record {
            version = ap (λ (s : StretchesModel). s.version) new ∙ ap (λ (s : StretchesModel). s.version) old;
            firsts = ap (λ (s : StretchesModel). s.firsts) new ∙ w.in_ok-push-in-Wide.ensures.items
                ∙ ap (λ (s : StretchesModel). s.firsts ++ c.args.first ∷ []) old;
            labels = ap (λ (s : StretchesModel). s.labels) new ∙ ap (map label_kept) w.in_ok-push-in-Wide-2.ensures.items
                ∙ ap (λ l. map label_kept (l ++ c.kept-label.result ∷ [])) w.reserve.ensures.items
                ∙ map-append label_kept w.in-Wide.labels.items (c.kept-label.result ∷ [])
                ∙ ap (λ (s : StretchesModel). s.labels ++ label_kept c.kept-label.result ∷ []) old
                ∙ ap (λ l. c.args.self.now.labels ++ l ∷ []) c.kept-label.ensures;
          }
    ]

every : (c : goal.Joined-self) → HasEveryAddress (stretches_of c.match-self.self-inside.begins)
every c =
    every_added c.args.self.now c.args.first c.args.label _ (subst HasEveryAddress c.self.view_is c.self.invariant) (added c) c.requires.above c.requires.within

pub invariant_of-self-2 : goal.invariant_of-self-2
invariant_of-self-2 c = every c

pub returns-clause-every : goal.returns-clause-every
returns-clause-every c = every c
