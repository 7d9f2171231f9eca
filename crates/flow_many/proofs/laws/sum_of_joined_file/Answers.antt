use Rattle.std.proofs.Common.{ap, true}
use Rattle.flow_files.specs.Groups.{uniq_text}
use Rattle.flow_files.specs.Reports.{passing_rows}
use Rattle.flow_many.proofs.JoinedLemmas.{joined_messages}
use Rattle.flow_many.proofs.laws.sum_of_joined_file.Goals as goal

pub returns : goal.returns
returns c first later follow refusal read is =
    let same = joined_messages c.placed_are_messages.ensures first later follow refusal read is in (
      c.file_after_file.ensures.many first later follow,
      λ fields condition columns labels. ap (λ messages. uniq_text fields true columns labels (passing_rows condition labels messages)) same,
    )
