use Rattle.std.proofs.Common.{◌∙◌}
use Rattle.pmap_text.proofs.Places.{place_from_search}
use Rattle.pmap_text.proofs.reading.lines.content_end.Goals as goal

pub returns-clause-place : goal.returns-clause-place
returns-clause-place c = c.unwrap_or.ensures ∙ place_from_search _ _ _ c.memchr2.ensures
