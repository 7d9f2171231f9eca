use Rattle.std.proofs.Common.{rules, append_assoc}
use Rattle.flow_files.proofs.fault.file_line.Goals as goal

pub returns : goal.returns
returns c = search (rules, append_assoc)
