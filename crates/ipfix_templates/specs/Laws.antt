use Rattle.std.specs.Prelude.{ℕ, List, [], ◌∷◌, Bool, false, Option, Some, None, fold}
use Rattle.std.specs.Prelude.{option_and_then, option_map, ◌==◌, ◌&&◌, if◌then◌else◌}
use Rattle.std.specs.List.{list_any}
use Rattle.std.specs.Option.{option_or}
use Rattle.ipfix_templates.specs.Template.{TemplateView, same_kind}
use Rattle.ipfix_templates.specs.InForce.{Define, InForce, TemplateEvent, Withdraw, WithdrawAll, after_event}

-- The template in force as RFC 7011 section 8 describes it. Each event is paired with its domain.

-- the templates in force after these events, given those before them
abbrev pub in_force : InForce → List (ℕ × TemplateEvent) → InForce
in_force before events = fold (λ templates event. after_event event.0 templates event.1) before events

-- the template, if the event defines it for this ID in this domain
abbrev pub definition : ℕ → ℕ → ℕ × TemplateEvent → Option TemplateView
definition domain id (at, Define t) = if at == domain && t.id == id then Some t else None
definition domain id (at, Withdraw other) = None
definition domain id (at, WithdrawAll kind) = None

-- the event withdraws this template, which has this ID in this domain
abbrev pub withdraws : ℕ → ℕ → TemplateView → ℕ × TemplateEvent → Bool
withdraws domain id t (at, Define other) = false
withdraws domain id t (at, Withdraw other) = at == domain && other == id
withdraws domain id t (at, WithdrawAll kind) = at == domain && same_kind kind t.kind

-- the last definition of an ID in a domain, with the events after it
abbrev pub last_definition : ℕ → ℕ → List (ℕ × TemplateEvent) → Option (TemplateView × List (ℕ × TemplateEvent))
last_definition domain id [] = None
last_definition domain id (e ∷ es) =
    option_or (last_definition domain id es) (option_map (λ t. (t, es)) (definition domain id e))

-- the last definition of the ID in the domain, or none if a later event there withdraws it
abbrev pub last_in_force : List (ℕ × TemplateEvent) → ℕ → ℕ → Option TemplateView
last_in_force events domain id =
    option_and_then (λ d. if list_any (withdraws domain id d.0) d.1 then None else Some d.0)
    (last_definition domain id events)
