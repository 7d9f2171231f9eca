-- The bytes that are no longer ahead are the ones that were noted.
use Rattle.std.proofs.Common.{rules, ◌++◌, ℕ, List, ◌+◌, drop, ap, sym, ◌∙◌, append_assoc, slice_range}
use Rattle.flow_io.proofs.Moving.{moved_ahead}
use Rattle.flow_io.proofs.read_ahead.ReadAhead.take.Goals as goal

pub invariant_of-self-clause-fetched : goal.invariant_of-self-clause-fetched
invariant_of-self-clause-fetched g c =
    let self = c.args.self.now in
    let n = c.min-count.result in
    let left : List ℕ = slice_range self.buffer.items (self.start + n) self.end in
    let moved = moved_ahead self.start self.end n self.buffer.items c.deref.result.now c.copy_from_slice.new.self (drop n c.args.buffer.now)
    (search rules) (search rules) c.copy_from_slice.ensures.after c.deref.ensures.value in
    self.fetched ∙ ap (λ l. self.returned.bytes ++ l) moved ∙ sym (append_assoc self.returned.bytes _ left) ∙ ap (λ l. l ++ left) (sym c.note.ensures)
