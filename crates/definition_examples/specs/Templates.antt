use Rattle.std.specs.Prelude.{ℕ, List, Result}
use Rattle.ipfix_templates.specs.Reading.{definition_at, field_at, fields_at, template_record_at}
use Rattle.ipfix_templates.specs.declared.event.TemplateEvent.{TemplateEvent}
use Rattle.ipfix_templates.specs.declared.fault.TemplateFaultKind.{TemplateFaultKind}
use Rattle.ipfix_templates.specs.declared.kind.Kind.{Kind}

-- Unfolds the opaque definitions of template records.
unfoldable pub opened : Kind → List ℕ → Result (TemplateEvent × List ℕ) TemplateFaultKind
unfolding definition_at field_at fields_at template_record_at
opened kind bytes = template_record_at kind bytes
