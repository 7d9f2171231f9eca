use Rattle.ipfix_read.proofs.Readings.{first_message_and_rest}
use Rattle.ipfix_read.proofs.laws.first_message_and_rest.Goals as goal

pub returns : goal.returns
returns c = first_message_and_rest
