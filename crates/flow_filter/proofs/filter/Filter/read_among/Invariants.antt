use Rattle.flow_filter.specs.Filters.{texts_given}
use Rattle.flow_filter.proofs.Reading.{AreRead}
use Rattle.flow_filter.proofs.filter.Filter.read_among.Given as goal

-- the options so far are read
abbrev pub invariant-loop-at : goal.invariant-loop-at
invariant-loop-at l = AreRead l.options (texts_given l.texts) l.at l.parts.items
