use Rattle.std.proofs.Common.{◌≡◌, ◌∙◌, ◌+◌, ◌-◌, ◌%◌, ◌^◌, ◌<◌, ◌≤◌, ◌∷◌, [], ℕ, Bool, List, Ok, ap, arith, drop, length, refl, rules, subst, sym, take}
use Rattle.std.proofs.lemmas.List.{append-nil}
use Rattle.prefix_keys.specs.Block.{block_number, width_of}
use Rattle.prefix_keys.specs.declared.version.Version.{Version}
use Rattle.std.proofs.Math.Nat.{mul-mod_left}
use Rattle.std.specs.Option.{option_or}
use Rattle.pmap_model.specs.MapText.{text_at}
use Rattle.pmap_model.specs.Steps.{◌>>=◌}
use Rattle.pmap_model.specs.declared.label.LabelId.{LabelId}
use Rattle.pmap_cert.specs.CertificateModel.{Claim, InnerNode, LeafNode, chain_claim, exact_claim}
use Rattle.pmap_cert.specs.Format.{format_number}
use Rattle.pmap_cert.specs.FormatReading.{ChainLine, InnerLine, LeafLine, nodes_at}
use Rattle.pmap_cert.specs.Packed.{bits_in}
use Rattle.pmap_cert.specs.CertificateText.{IsAscending}
use Rattle.pmap_cert.proofs.FormatTrees.{line_due-found}
use Rattle.pmap_cert.proofs.Paths.{path-length}
use Rattle.pmap_cert.proofs.ReadingSteps.{chain-below, chain-over, deeper, due_in, node-deep, node-fault, node-leaf}
use Rattle.cert_check.specs.Checking.{claim_fault}
use Rattle.cert_check.specs.Inner.{IsHeld, IsPassed, IsWalkResult, Read, chain_reading, claim_with, fault_of_node, fault_with, halves_reading, number_at, reading_at}
use Rattle.cert_check.proofs.OneStretch.{half-ranges}
use Rattle.cert_check.proofs.Sets.{numbers}
use Rattle.cert_check.proofs.Walks.{chain-passed, end-unread, halves-passed, held-at, low-piece, lower-unread, own-piece, sets-kept, up-piece, upper-unread}
use Rattle.cert_check.proofs.walk.+nodes.Goals as goal

pub check_node-returns-in-Err : goal.check_node-returns-in-Err
check_node-returns-in-Err t c =
    let limits = c.args.sources.now.limits in
    rw (c.stop.ensures.none, c.stop.ensures.stop) (
      c.in-Err.fault,
      refl,
      (
        λ some. node-fault (due_in limits.format limits.width limits.labels.now) limits.labels.now c.args.walk.now.nodes c.args.walk.now.nodes (limits.width - c.args.len)
            c.in-Err.fault (c.in-Err.ensures.err some),
        c.in-Err.ensures.memory,
      ),
    )

pub check_node-returns-then-len-sources : goal.check_node-returns-then-len-sources
check_node-returns-then-len-sources t c =
    let limits = c.args.sources.now.limits in
    let room : limits.width - c.args.len ≡ 0 = omega (arith, c.if-len-sources.true) in
    rw (c.stop-then-len-sources.ensures.none, c.stop-then-len-sources.ensures.stop) (
      c.fault-deepest.result,
      refl,
      rw c.fault-deepest.ensures (
        λ _. ap (λ (n : ℕ). nodes_at (due_in limits.format limits.width limits.labels.now) limits.labels.now n 0 c.args.walk.now.nodes) room
            ∙ node-deep (due_in limits.format limits.width limits.labels.now) limits.labels.now c.args.walk.now.nodes c.next_node.new.self c.in-Ok-Inner.claim.cost (numbers c.in-Ok-Inner.claim.set.now)
            (rw c.in-Ok-Inner.field-0-is at c.in-Ok-Inner.ensures.ok),
        λ e. cc,
      ),
    )

pub check_node-check_inner-requires : goal.check_node-check_inner-requires
check_node-check_inner-requires t c =
    let limits = c.args.sources.now.limits in
    let said = line_due-found (format_number limits.format) limits.width (length limits.labels.now) c.args.walk.now.nodes
    (InnerLine c.in-Ok-Inner.claim.cost (numbers c.in-Ok-Inner.claim.set.now), c.next_node.new.self) (rw c.in-Ok-Inner.field-0-is at c.in-Ok-Inner.ensures.ok) in
    let at = held-at c.args.walk.now.sets.items c.in-Ok-Inner.claim.set.now c.hold.new.sets.items c.in-Ok-hold.held.from c.in-Ok-hold.ensures.sets c.in-Ok-hold.ensures.from in
    let held : IsHeld c.args.sources.now c.in-Ok-hold.held c.hold.new.sets.items =
    record { within = at.2; ascending = subst (λ (ids : List LabelId). IsAscending (length limits.labels.now) 0 (numbers ids)) (sym at.1) said.1.1 } in
    let room : c.args.len < limits.width = omega (arith, c.requires.sources.width, c.requires.range.short, c.if-len-sources.false) in
    search rules

pub check_node-returns-in-Ok-hold : goal.check_node-returns-in-Ok-hold
check_node-returns-in-Ok-hold t c =
    let s = c.args.sources.now in
    let limits = s.limits in
    let table = limits.labels.now in
    let n = c.args.len in
    let walk = c.args.walk.now in
    let due = due_in limits.format limits.width table in
    let numbers' = numbers c.in-Ok-Inner.claim.set.now in
    let claim = claim_with table c.in-Ok-Inner.claim.cost numbers' in
    let some : n < limits.width = omega (arith, c.requires.sources.width, c.requires.range.short, c.if-len-sources.false) in
    let less : limits.width - n - 1 ≡ limits.width - (n + 1) = omega arith in
    let held = held-at walk.sets.items c.in-Ok-Inner.claim.set.now c.hold.new.sets.items c.in-Ok-hold.held.from c.in-Ok-hold.ensures.sets c.in-Ok-hold.ensures.from in
    let is : reading_at s n walk.nodes ≡ halves_reading s n claim c.next_node.new.self =
    deeper due table walk.nodes c.next_node.new.self c.in-Ok-Inner.claim.cost numbers' (rw c.in-Ok-Inner.field-0-is at c.in-Ok-Inner.ensures.ok) (limits.width - n) (omega (arith, some))
    ∙ ap (λ (m : ℕ). nodes_at due table m 0 c.next_node.new.self >>= (λ lower. nodes_at due table m 0 lower.1 >>= (λ upper.
    Ok (InnerNode claim lower.0 upper.0, upper.1)))) less in
    let q = number_at s n c.args.first in
    subst (λ (r : Read). IsWalkResult s r (fault_of_node n q) walk.number walk.sets.items walk.fault c.check_inner.new.walk c.check_inner.result) (sym is)
    (subst (λ (x : Claim × List LabelId). IsWalkResult s (halves_reading s n x.0 c.next_node.new.self) (fault_of_node n q) walk.number x.1 walk.fault c.check_inner.new.walk c.check_inner.result)
    (λ i. (claim_with table (c.in-Ok-hold.ensures.cost i) (numbers (held.1 i)), held.0 i)) c.check_inner.ensures)

pub check_node-returns-then-len-sources-2 : goal.check_node-returns-then-len-sources-2
check_node-returns-then-len-sources-2 t c =
    rw (c.stop-then-len-sources-2.ensures.none, c.stop-then-len-sources-2.ensures.stop) (
      c.fault-deepest.result,
      refl,
      rw c.fault-deepest.ensures (
        λ _. chain-over _ _ _ _ _ _ _ _ _ (rw c.in-Ok-Chain.field-0-is at c.in-Ok-Chain.ensures.ok) _ c.len.result c.len.ensures (omega (arith, c.if-len-sources-2.true)),
        λ e. cc,
      ),
    )

pub check_node-check_chain-requires : goal.check_node-check_chain-requires
check_node-check_chain-requires t c =
    let limits = c.args.sources.now.limits in
    let bits : List Bool = bits_in c.in-Ok-Chain.path.now in
    let said = line_due-found (format_number limits.format) limits.width (length limits.labels.now) c.args.walk.now.nodes
    (ChainLine c.in-Ok-Chain.claim.cost bits c.in-Ok-Chain.side.0 (numbers c.in-Ok-Chain.claim.set.now), c.next_node.new.self) (rw c.in-Ok-Chain.field-0-is at c.in-Ok-Chain.ensures.ok) in
    let at = held-at c.args.walk.now.sets.items c.in-Ok-Chain.claim.set.now c.hold-in-Ok-Chain.new.sets.items c.in-Ok-hold-2.held.from c.in-Ok-hold-2.ensures.sets c.in-Ok-hold-2.ensures.from in
    let held : IsHeld c.args.sources.now c.in-Ok-hold-2.held c.hold-in-Ok-Chain.new.sets.items =
    record { within = at.2; ascending = subst (λ (ids : List LabelId). IsAscending (length limits.labels.now) 0 (numbers ids)) (sym at.1) said.1.5 } in
    let room : c.args.len + length bits ≤ limits.width = omega (arith, c.len.ensures, c.if-len-sources-2.false, said.1.2) in
    let known = said.1.4 in
    let some = said.1.2 in
    search rules

pub check_node-returns-in-Ok-hold-2 : goal.check_node-returns-in-Ok-hold-2
check_node-returns-in-Ok-hold-2 t c =
    let s = c.args.sources.now in
    let limits = s.limits in
    let table = limits.labels.now in
    let n = c.args.len in
    let walk = c.args.walk.now in
    let bits : List Bool = bits_in c.in-Ok-Chain.path.now in
    let side = c.in-Ok-Chain.side.0 in
    let numbers' = numbers c.in-Ok-Chain.claim.set.now in
    let claim = claim_with table c.in-Ok-Chain.claim.cost numbers' in
    let less : limits.width - n - c.len.result ≡ limits.width - (n + length bits) = omega (arith, c.len.ensures) in
    let held = held-at walk.sets.items c.in-Ok-Chain.claim.set.now c.hold-in-Ok-Chain.new.sets.items c.in-Ok-hold-2.held.from c.in-Ok-hold-2.ensures.sets c.in-Ok-hold-2.ensures.from in
    let is : reading_at s n walk.nodes ≡ chain_reading s n claim bits side c.next_node.new.self =
    chain-below limits.format limits.width table walk.nodes c.next_node.new.self c.in-Ok-Chain.claim.cost bits side numbers' (rw c.in-Ok-Chain.field-0-is at c.in-Ok-Chain.ensures.ok)
    (limits.width - n) c.len.result c.len.ensures (omega (arith, c.if-len-sources-2.false)) (reading_at s (n + length bits) c.next_node.new.self)
    (ap (λ (m : ℕ). nodes_at (due_in limits.format limits.width table) table m 0 c.next_node.new.self) less) in
    let q = number_at s n c.args.first in
    subst (λ (r : Read). IsWalkResult s r (fault_of_node n q) walk.number walk.sets.items walk.fault c.check_chain.new.walk c.check_chain.result) (sym is)
    (subst (λ (x : Claim × List LabelId). IsWalkResult s (chain_reading s n x.0 bits side c.next_node.new.self) (fault_of_node n q) walk.number x.1 walk.fault c.check_chain.new.walk c.check_chain.result)
    (λ i. (claim_with table (c.in-Ok-hold-2.ensures.cost i) (numbers (held.1 i)), held.0 i)) c.check_chain.ensures)

pub check_node-returns-in-Ok : goal.check_node-returns-in-Ok
check_node-returns-in-Ok t c =
    let s = c.args.sources.now in
    let limits = s.limits in
    let id = c.in-Ok-Leaf.id in
    let walk = c.args.walk.now in
    let due = rw c.in-Ok-Leaf.field-0-is at c.in-Ok-Leaf.ensures.ok in
    let said = line_due-found (format_number limits.format) limits.width (length limits.labels.now) walk.nodes (LeafLine id.0, c.next_node.new.self) due in
    rw c.note.ensures
    (record {
      tree = LeafNode (text_at limits.labels.now id.0);
      set = id ∷ [];
      read = node-leaf (due_in limits.format limits.width limits.labels.now) limits.labels.now walk.nodes c.next_node.new.self (limits.width - c.args.len) id.0 due;
      claim = refl;
      ascending = (omega arith, said.1, tt);
      sets = c.in-Ok.ensures;
      fault = λ k told_is. (
        λ o of i. option_or walk.fault (fault_with (sym told_is i) (c.leaf_fault-fault.ensures o of c.args.len (number_at s c.args.len c.args.first) c.requires.range i)),
        sym (c.next_number-walk.ensures k told_is),
      );
    })

pub check_node-leaf_fault-fault-requires-clause-known : goal.check_node-leaf_fault-fault-requires-clause-known
check_node-leaf_fault-fault-requires-clause-known t c =
    let limits = c.args.sources.now.limits in
    let due = rw c.in-Ok-Leaf.field-0-is at c.in-Ok-Leaf.ensures.ok in
    (line_due-found (format_number limits.format) limits.width (length limits.labels.now) c.args.walk.now.nodes (LeafLine c.in-Ok-Leaf.id.0, c.next_node.new.self) due).1

pub check_node-invariant_of-block : goal.check_node-invariant_of-block
check_node-invariant_of-block t c =
    let s = c.args.sources.now in
    let range = c.requires.range in
    let size = 2 ^ (width_of s.version - c.args.len) in
    record {
      len_in_range = range.short;
      in_range = omega (arith, range.some, range.fits);
      no_host_bit = ap (λ (a : ℕ). a % size) range.first_is ∙ mul-mod_left (number_at s c.args.len c.args.first) size;
    }

pub check_inner-check_node-requires : goal.check_inner-check_node-requires
check_inner-check_node-requires t c =
    let s = c.args.sources.now in
    let range = (half-ranges s c.args.first c.args.last c.args.len (number_at s c.args.len c.args.first) (omega (arith, c.requires.sources.width, c.requires.room)) c.requires.range).low in
    search rules

pub check_inner-check_node-requires-2 : goal.check_inner-check_node-requires-2
check_inner-check_node-requires-2 t c =
    let s = c.args.sources.now in
    let range = (half-ranges s c.args.first c.args.last c.args.len (number_at s c.args.len c.args.first) (omega (arith, c.requires.sources.width, c.requires.room)) c.requires.range).high in
    search rules

pub check_inner-overflow_add-middle-2 : goal.check_inner-overflow_add-middle-2
check_inner-overflow_add-middle-2 t c =
    let s = c.args.sources.now in
    omega (arith, c.ranges.last, (half-ranges s c.args.first c.args.last c.args.len (number_at s c.args.len c.args.first) (omega (arith, c.requires.sources.width, c.requires.room)) c.requires.range).high.some)

pub check_inner-returns-in_err-lower_cost : goal.check_inner-returns-in_err-lower_cost
check_inner-returns-in_err-lower_cost t c =
    let s = c.args.sources.now in
    let walk = c.args.walk.now in
    let q = number_at s c.args.len c.args.first in
    let halves = half-ranges s c.args.first c.args.last c.args.len q (omega (arith, c.requires.sources.width, c.requires.room)) c.requires.range in
    let stopped = c.in_err-lower_cost.ensures in
    rw c.from_residual.ensures (
      stopped.0,
      stopped.1,
      lower-unread s c.args.len q _ _ c.args.held.cost halves.low_is halves.high_is (drop c.args.held.from walk.sets.items) walk.nodes c.args.number walk.number c.requires.number stopped.0 stopped.2,
    )

pub check_inner-returns-in_err-upper_cost : goal.check_inner-returns-in_err-upper_cost
check_inner-returns-in_err-upper_cost t c =
    let s = c.args.sources.now in
    let walk = c.args.walk.now in
    let q = number_at s c.args.len c.args.first in
    let halves = half-ranges s c.args.first c.args.last c.args.len q (omega (arith, c.requires.sources.width, c.requires.room)) c.requires.range in
    let lower = c.in_ok-lower_cost.ensures in
    let stopped = c.in_err-upper_cost.ensures in
    rw c.from_residual-in_err-upper_cost.ensures (
      stopped.0,
      stopped.1,
      upper-unread s c.args.len q _ _ c.args.held.cost halves.low_is halves.high_is (drop c.args.held.from walk.sets.items) walk.nodes c.args.number walk.number c.requires.number walk.sets.items walk.fault c.check_node.new.walk
          c.in_ok-lower_cost.lower_cost lower stopped.0 stopped.2,
    )

pub check_inner-returns : goal.check_inner-returns
check_inner-returns t c =
    let s = c.args.sources.now in
    let table = s.limits.labels.now in
    let walk = c.args.walk.now in
    let own = drop c.args.held.from walk.sets.items in
    let q = number_at s c.args.len c.args.first in
    let halves = half-ranges s c.args.first c.args.last c.args.len q (omega (arith, c.requires.sources.width, c.requires.room)) c.requires.range in
    let lower = c.in_ok-lower_cost.ensures in
    let upper = c.in_ok-upper_cost.ensures in
    let low_at = c.len-lower.ensures ∙ walk.sets.ok.0 in
    let up_at = c.len-upper.ensures ∙ c.check_node.new.walk.sets.ok.0 in
    let first = own-piece _ _ _ _ _ _ _ _ c.requires.held.within lower.sets upper.sets low_at up_at in
    let second = low-piece _ _ _ _ _ _ _ _ c.requires.held.within lower.sets upper.sets low_at up_at in
    let third = up-piece _ _ _ _ _ _ _ _ c.requires.held.within lower.sets upper.sets low_at up_at in
    rw c.note.ensures
    (halves-passed s c.args.len q _ _ c.args.held.cost halves.low_is halves.high_is own walk.nodes c.args.number walk.number c.requires.number
    walk.sets.items walk.fault c.check_node.new.walk c.in_ok-lower_cost.lower_cost lower (take c.args.held.from walk.sets.items) c.check_node-2.new.walk _ c.in_ok-upper_cost.upper_cost c.claim_fault-fault.result
    upper c.requires.held.ascending
    (rw c.as_slice-sets.ensures.value at c.claim_fault-fault.ensures
    ∙ (λ i. claim_fault (claim_with table c.args.held.cost (numbers (first i)))
    (exact_claim (claim_with table c.in_ok-lower_cost.lower_cost (numbers (second i))) (claim_with table c.in_ok-upper_cost.upper_cost (numbers (third i))))))
    refl refl (c.truncate.ensures.items ∙ sets-kept _ _ _ _ _ _ _ _ c.requires.held.within lower.sets upper.sets low_at up_at) refl)

pub check_chain-end-end-requires : goal.check_chain-end-end-requires
check_chain-end-end-requires t c =
    let path = c.args.path.now in
    let width = c.requires.sources.width ∙ sym (ap width_of c.requires.version) in
    omega (arith, c.requires.fits.room, path-length path.value path.count, width)

pub check_chain-path_fault-beside-requires-clause-room : goal.check_chain-path_fault-beside-requires-clause-room
check_chain-path_fault-beside-requires-clause-room t c =
    let path = c.args.path.now in
    let width = c.requires.sources.width ∙ sym (ap width_of c.requires.version) in
    omega (arith, c.requires.fits.room, path-length path.value path.count, width)

pub check_chain-returns-in_err-end_cost : goal.check_chain-returns-in_err-end_cost
check_chain-returns-in_err-end_cost t c =
    let walk = c.args.walk.now in
    let stopped = c.in_err-end_cost.ensures in
    rw c.from_residual.ensures (
      stopped.0,
      stopped.1,
      end-unread c.args.sources.now c.args.block.now c.end-end.result c.args.held.cost (drop c.args.held.from walk.sets.items) (bits_in c.args.path.now) c.args.side.0 c.end-end.ensures walk.nodes c.args.number walk.number c.requires.number
          stopped.0 stopped.2,
    )

pub check_chain-returns : goal.check_chain-returns
check_chain-returns t c =
    let s = c.args.sources.now in
    let table = s.limits.labels.now in
    let walk = c.args.walk.now in
    let own = drop c.args.held.from walk.sets.items in
    let bits = bits_in c.args.path.now in
    let end = c.end-end.result in
    let below = subst (λ (v : Version). IsPassed s (reading_at s end.len walk.nodes) (fault_of_node end.len (block_number (width_of v) end.len end.value)) walk.number walk.sets.items walk.fault
    c.check_node.new.walk c.in_ok-end_cost.end_cost) (sym (c.end-end.ensures.version ∙ c.requires.version)) c.in_ok-end_cost.ensures in
    let last = c.check_node.new.walk in
    let at = c.len-start.ensures ∙ walk.sets.ok.0 in
    let none = sym (append-nil last.sets.items) in
    let first = own-piece _ _ _ _ _ _ _ (length last.sets.items) c.requires.held.within below.sets none at refl in
    let second = low-piece _ _ _ _ _ _ _ (length last.sets.items) c.requires.held.within below.sets none at refl in
    rw (c.note-2.ensures, c.note.ensures)
    (chain-passed s c.args.block.now c.end-end.result c.args.held.cost own bits c.args.side.0 c.end-end.ensures walk.nodes c.args.number walk.number c.requires.number
    walk.sets.items (take c.args.held.from walk.sets.items) walk.fault last _ c.in_ok-end_cost.end_cost c.path_fault-beside.result c.chain_fault-fault.result below c.requires.held.ascending
    c.path_fault-beside.ensures
    (rw (c.as_slice-sets.ensures.value, c.note.ensures) at c.chain_fault-fault.ensures
    ∙ (λ i. claim_fault (claim_with table c.args.held.cost (numbers (first i)))
    (chain_claim (length bits) (text_at table c.args.side.0) (claim_with table c.in_ok-end_cost.end_cost (numbers (second i))))))
    refl refl ((rw c.note.ensures at c.truncate.ensures.items) ∙ sets-kept _ _ _ _ _ _ _ (length last.sets.items) c.requires.held.within below.sets none at refl) refl)
