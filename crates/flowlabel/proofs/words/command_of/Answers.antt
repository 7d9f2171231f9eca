use Rattle.std.proofs.Common.{◌∙◌, sym}
use Rattle.flowlabel.proofs.words.command_of.Goals as goal

pub returns-then-eq-2 : goal.returns-then-eq-2
returns-then-eq-2 c = rw (sym c.eq.ensures ∙ c.if-eq.false, sym c.eq-else-eq.ensures ∙ c.if-eq-2.true) c.rows_command.ensures
