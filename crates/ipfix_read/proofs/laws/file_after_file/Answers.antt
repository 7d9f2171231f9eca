use Rattle.ipfix_read.proofs.Following.{file_after_file, joined_file_is_read}
use Rattle.ipfix_read.proofs.laws.file_after_file.Goals as goal

pub returns-clause-two : goal.returns-clause-two
returns-clause-two c = file_after_file

pub returns-clause-many : goal.returns-clause-many
returns-clause-many c = joined_file_is_read
