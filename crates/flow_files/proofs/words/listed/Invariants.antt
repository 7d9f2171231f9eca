-- The words are those in the list, followed by those that aren't listed yet.
use Rattle.std.proofs.Common.{◌≡◌, ◌++◌}
use Rattle.std.specs.Vec.Iter.{into_iter_items}
use Rattle.flow_files.proofs.words.listed.Given as goal

abbrev pub invariant-loop-word : goal.invariant-loop-word
invariant-loop-word l = into_iter_items l.fn.words ≡ l.list.items ++ into_iter_items l.word-iterator
