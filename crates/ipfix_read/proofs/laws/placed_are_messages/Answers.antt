use Rattle.ipfix_read.proofs.Readings.{placed_are_messages}
use Rattle.ipfix_read.proofs.laws.placed_are_messages.Goals as goal

pub returns : goal.returns
returns c = placed_are_messages
