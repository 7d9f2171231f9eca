use Rattle.std.proofs.Common.{rules}
use Rattle.flow_many.proofs.WordLemmas.{need_labels}
use Rattle.flow_many.proofs.words.sum_command.Goals as goal

pub returns : goal.returns
returns c =
    rw (
      c.in_ok-labels.ensures,
      c.in_ok-filter.ensures,
      c.in_ok-keys.ensures,
      need_labels c.in_ok-keys.keys,
      c.is_given.ensures,
      c.is_given-2.ensures,
      c.in_ok-files_in.ensures,
    ) (search rules)
