use Rattle.std.proofs.Common.{◌∙◌, ◌++◌, ℕ, List, append_assoc, ap, sym, take}
use Rattle.nfcapd_read.specs.File.{is_nfcapd}
use Rattle.nfcapd_read.proofs.Rejoining.{joined_more}
use Rattle.nfcapd_read.proofs.rejoined.Rejoined.read_on.Goals as goal

pub invariant_of-self-2-clause-joined : goal.invariant_of-self-2-clause-joined
invariant_of-self-2-clause-joined g c =
    let self = c.args.self.now in
    joined_more self.returned.bytes self.front c.note.new.self.bytes (take c.in_ok-count.count c.read.new.buffer) (g.R.Input.input self.inner).returned _ self.start c.requires
    self.joined c.in_ok-count.ensures.read.returned c.note.ensures

pub invariant_of-self-2-clause-other : goal.invariant_of-self-2-clause-other
invariant_of-self-2-clause-other g c = λ rest.
    let bytes = take c.in_ok-count.count c.read.new.buffer in
    ap (λ (l : List ℕ). is_nfcapd (l ++ rest)) c.in_ok-count.ensures.read.returned
    ∙ ap is_nfcapd (append_assoc (g.R.Input.input c.args.self.now.inner).returned bytes rest) ∙ c.args.self.now.other (bytes ++ rest)

pub invariant_of-self-2-clause-over : goal.invariant_of-self-2-clause-over
invariant_of-self-2-clause-over g c = λ ended. c.in_ok-count.ensures.end ∙ sym c.is_end-self.ensures ∙ ended
