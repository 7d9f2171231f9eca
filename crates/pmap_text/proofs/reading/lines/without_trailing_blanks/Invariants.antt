use Rattle.std.proofs.Common.{◌≡◌, ◌≤◌, ◌+◌, take, length}
use Rattle.std.specs.List.{suffix_len}
use Rattle.pmap_model.specs.Label.{is_blank}
use Rattle.pmap_text.proofs.reading.lines.without_trailing_blanks.Given as goal

-- the bytes that were removed are blanks
abbrev pub invariant-loop-end : goal.invariant-loop-end
invariant-loop-end l = (l.end ≤ length l.text) × (l.end + suffix_len is_blank l.text ≡ length l.text + suffix_len is_blank (take l.end l.text))

abbrev pub decreases-loop-end : goal.decreases-loop-end
decreases-loop-end l = l.end
