-- The last definition is in force, unless it is withdrawn later.
use Rattle.std.proofs.Common.{◌≡◌, ◌∙◌, ◌==◌, ◌&&◌, ◌||◌, ℕ, Bool, true, false, cond, List, [], ◌∷◌, Option, Some, None, refl}
use Rattle.std.specs.Prelude.{option_and_then, option_map}
use Rattle.std.specs.List.{list_any}
use Rattle.std.specs.Option.{option_or}
use Rattle.ipfix_templates.specs.Template.{TemplateView, same_kind}
use Rattle.ipfix_templates.specs.InForce.{Define, InForce, TemplateEvent, Withdraw, WithdrawAll, after_event, no_templates}
use Rattle.ipfix_templates.specs.Laws.{definition, in_force, last_definition, last_in_force, withdraws}

module _ (domain id : ℕ) where
  -- the template, or none if one of the events withdraws it
  abbrev kept : List (ℕ × TemplateEvent) → TemplateView → Option TemplateView
  kept events t = cond (list_any (withdraws domain id t) events) None (Some t)

  -- the template in force after events, by their last definition and the template in force before them
  abbrev by_last : Option (TemplateView × List (ℕ × TemplateEvent)) → List (ℕ × TemplateEvent) → Option TemplateView → Option TemplateView
  by_last None events before = option_and_then (kept events) before
  by_last (Some d) events before = kept d.1 d.0

  first_event : (e : ℕ × TemplateEvent) (events : List (ℕ × TemplateEvent)) (before : InForce)
      → option_and_then (kept events) (after_event e.0 before e.1 domain id)
      ≡ by_last (option_map (λ t. (t, events)) (definition domain id e)) (e ∷ events) (before domain id)
  first_event (at, Define t) events before = by (at == domain && t.id == id)
    where
      by : (here : Bool) → option_and_then (kept events) (cond here (Some t) (before domain id))
          ≡ by_last (option_map (λ t. (t, events)) (cond here (Some t) None)) ((at, Define t) ∷ events) (before domain id)
      by true = refl
      by false = refl
  first_event (at, Withdraw other) events before = by (at == domain && other == id) (before domain id)
    where
      by : (here : Bool) (o : Option TemplateView) → option_and_then (kept events) (cond here None o)
          ≡ option_and_then (λ t. cond (here || list_any (withdraws domain id t) events) None (Some t)) o
      by true None = refl
      by true (Some t) = refl
      by false o = refl
  first_event (at, WithdrawAll kind) events before = by (before domain id)
    where
      one : (here : Bool) (t : TemplateView) → option_and_then (kept events) (cond here None (Some t))
          ≡ cond (here || list_any (withdraws domain id t) events) None (Some t)
      one true t = refl
      one false t = refl

      by : (o : Option TemplateView) → option_and_then (kept events) (option_and_then (λ t. cond (at == domain && same_kind kind t.kind) None (Some t)) o)
          ≡ option_and_then (kept ((at, WithdrawAll kind) ∷ events)) o
      by None = refl
      by (Some t) = one (at == domain && same_kind kind t.kind) t

  all_events : (events : List (ℕ × TemplateEvent)) (before : InForce)
      → in_force before events domain id ≡ by_last (last_definition domain id events) events (before domain id)
  all_events [] before = by (before domain id)
    where
      by : (o : Option TemplateView) → o ≡ option_and_then (kept []) o
      by None = refl
      by (Some t) = refl
  all_events (e ∷ events) before = all_events events (after_event e.0 before e.1) ∙ by (last_definition domain id events)
    where
      by : (last : Option (TemplateView × List (ℕ × TemplateEvent))) → by_last last events (after_event e.0 before e.1 domain id)
          ≡ by_last (option_or last (option_map (λ t. (t, events)) (definition domain id e))) (e ∷ events) (before domain id)
      by None = first_event e events before
      by (Some d) = refl

  pub last-in_force : (events : List (ℕ × TemplateEvent)) → in_force no_templates events domain id ≡ last_in_force events domain id
  last-in_force events = all_events events no_templates ∙ by (last_definition domain id events)
    where
      by : (last : Option (TemplateView × List (ℕ × TemplateEvent)))
          → by_last last events None ≡ option_and_then (λ d. cond (list_any (withdraws domain id d.0) d.1) None (Some d.0)) last
      by None = refl
      by (Some d) = refl
