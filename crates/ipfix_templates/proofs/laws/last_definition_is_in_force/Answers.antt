use Rattle.ipfix_templates.proofs.InForce.{last-in_force}
use Rattle.ipfix_templates.proofs.laws.last_definition_is_in_force.Goals as goal

pub returns : goal.returns
returns c events domain id = last-in_force domain id events
