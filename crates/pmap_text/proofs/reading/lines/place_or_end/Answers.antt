use Rattle.std.proofs.Common.{◌∙◌}
use Rattle.pmap_text.proofs.Places.{place_from_position}
use Rattle.pmap_text.proofs.reading.lines.place_or_end.Goals as goal

pub returns-clause-place : goal.returns-clause-place
returns-clause-place c = λ p found. c.unwrap_or.ensures ∙ place_from_position p _ _ found
