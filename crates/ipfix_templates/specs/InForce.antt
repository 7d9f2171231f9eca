use Rattle.std.specs.Prelude.{ℕ, Option, Some, None, option_and_then, ◌==◌, ◌&&◌, if◌then◌else◌}
use Rattle.std.specs.Option.{option_or}
use Rattle.ipfix_templates.specs.Template.{same_kind, TemplateView}
use Rattle.ipfix_templates.specs.Table.{stored}
pub use Rattle.ipfix_templates.specs.declared.table.TemplateTable.{TemplateTable}
pub use Rattle.ipfix_templates.specs.declared.event.TemplateEvent.{TemplateEvent}
pub use Rattle.ipfix_templates.specs.declared.event.TemplateEvent.TheVariants.{Define, Withdraw, WithdrawAll}

-- the templates in force, by domain and ID (RFC 7011 section 8)
abbrev pub InForce : Type 0
InForce = ℕ → ℕ → Option TemplateView

abbrev pub no_templates : InForce
no_templates domain id = None

-- these templates, but with this one or none at a domain and an ID
abbrev pub changed_at : InForce → ℕ → ℕ → Option TemplateView → InForce
changed_at before at number value domain id =
    if at == domain && number == id then value else before domain id

-- the templates in force after one more event in a domain: it puts a template at its ID, removes the one at an ID, or
-- removes all of a kind
abbrev pub after_event : ℕ → InForce → TemplateEvent → InForce
after_event at before (Define t) = changed_at before at t.id (Some t)
after_event at before (Withdraw id) = changed_at before at id None
after_event at before (WithdrawAll kind) = λ domain id.
    option_and_then (λ t. if at == domain && same_kind kind t.kind then None else Some t)
    (before domain id)

-- Below: only contracts of parts and proofs use these; no promise of the program rests on them.

-- the template that the table has at a domain and an ID
abbrev pub template_at : TemplateTable → InForce
template_at table domain id = option_or (stored table.flow domain id) (stored table.options domain id)
