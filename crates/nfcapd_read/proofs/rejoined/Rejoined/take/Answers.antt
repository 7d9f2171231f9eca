-- The bytes of the front that are no longer left are the ones that were noted.
use Rattle.std.proofs.Common.{rules, ◌++◌, ℕ, List, ◌+◌, drop, ap, sym, ◌∙◌, append_assoc, slice_range, refl}
use Rattle.flow_io.proofs.Moving.{moved_ahead}
use Rattle.nfcapd_read.proofs.rejoined.Rejoined.take.Goals as goal

pub invariant_of-self-clause-joined : goal.invariant_of-self-clause-joined
invariant_of-self-clause-joined g c =
    let self = c.args.self.now in
    let n = c.min-count.result in
    let left : List ℕ = slice_range self.front (self.start + n) 2 in
    let moved = moved_ahead self.start 2 n self.front self.front c.copy_from_slice.new.self (drop n c.args.buffer.now)
    (search rules) (search rules) c.copy_from_slice.ensures.after refl in
    self.joined ∙ ap (λ l. self.returned.bytes ++ l) moved ∙ sym (append_assoc self.returned.bytes _ left) ∙ ap (λ l. l ++ left) (sym c.note.ensures)
