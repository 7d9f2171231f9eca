use Rattle.std.proofs.Common.{rules}
use Rattle.flowlabel.proofs.words.uniq_command.Goals as goal

pub returns : goal.returns
returns c =
    rw (
      c.in_ok-labels.ensures,
      c.in_ok-filter.ensures,
      c.in_ok-keys.ensures,
      c.is_given.ensures,
      c.is_given-2.ensures,
      c.needed_text.ensures,
    ) (search rules)
