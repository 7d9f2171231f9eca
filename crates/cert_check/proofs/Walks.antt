-- The results of a walk over a tree, by those over the trees below it.
use Rattle.std.proofs.Math.Seq.{drop-append_seam, take-append_seam}
use Rattle.std.proofs.lemmas.List.{append-nil, append_assoc, length-append, length-drop, length-take-le, take-append-drop}
use Rattle.std.proofs.Common.{◌≡◌, ◌∙◌, ℕ, drop, take, suc, ◌+◌, ◌-◌, ◌*◌, ◌≤◌, Bool, List, [], ◌++◌, length, Option, Ok, option_map, refl, sym, ap, arith}
use Rattle.std.specs.Option.{option_or}
use Rattle.prefix_keys.specs.declared.block.Block.{Block}
use Rattle.pmap_model.specs.MapText.{map_of, text_at}
use Rattle.pmap_model.specs.PrefixList.{list_of, number_of_block}
use Rattle.pmap_model.specs.Steps.{◌>>=◌}
use Rattle.pmap_model.specs.declared.label.LabelId.{LabelId}
use Rattle.pmap_cert.specs.Compacting.{line_count}
use Rattle.pmap_cert.specs.CertificateText.{IsAscending}
use Rattle.pmap_cert.specs.CertificateModel.{ChainNode, InnerNode, Claim, Tree, chain_claim, claim_of, exact_claim}
use Rattle.pmap_cert.specs.FormatReading.{Place}
use Rattle.pmap_cert.specs.Paths.{LeadsTo}
use Rattle.pmap_cert.specs.declared.fault.CertFault.{CertFault}
use Rattle.cert_check.specs.Checking.{bits_fault, claim_fault, fault_of_number, node_fault, BoundNotMet, CheckFault, CheckFaultKind}
use Rattle.cert_check.specs.Inner.{AreOf, IsAfter, IsPassed, IsUnread, Origin, Read, Sources, Walk, chain_reading, claim_with, fault_of_node, fault_with, halves_reading, reading_at, sides_fault}
use Rattle.cert_check.proofs.Nodes.{bits-sides, or-or}
use Rattle.cert_check.proofs.Sets.{numbers}

-- the sets with one more, cut at its beginning
pub held-at : (old set new : List LabelId) (from : ℕ) → new ≡ old ++ set → from ≡ length old → (take from new ≡ old) × (drop from new ≡ set) × (from ≤ length new)
held-at old set new from is at = (
  (λ i. take (at i) (is i)) ∙ take-append_seam old set,
  (λ i. drop (at i) (is i)) ∙ drop-append_seam old set,
  let long = ap (λ (ids : List LabelId). length ids) is in omega (arith, at, long, length-append old set),
)

-- An inner node whose claim has this cost and the numbers of these labels, at this place after its line.
module _ (s : Sources) (n q low high cost : ℕ) (low_is : low ≡ 2 * q) (high_is : high ≡ 2 * q + 1) (own : List LabelId) (place : Place) (number next : ℕ) (after : IsAfter number next) where
  abbrev claim : Claim
  claim = claim_with s.limits.labels.now cost (numbers own)

  abbrev upper_then : Tree → Read → Read
  upper_then lower r = r >>= (λ upper. Ok (InnerNode claim lower upper.0, upper.1))

  abbrev lower_then : Read → Read
  lower_then r = r >>= (λ lower. upper_then lower.0 (reading_at s (n + 1) lower.1))

  pub lower-unread : (f : CertFault) → IsUnread (reading_at s (n + 1) place) f → IsUnread (halves_reading s n claim place) f
  lower-unread f unread = (λ some. ap lower_then (unread.0 some), unread.1)

  module _ (sets : List LabelId) (before : Option CheckFault) (middle : Walk) (low_cost : ℕ)
      (lower : IsPassed s (reading_at s (n + 1) place) (fault_of_node (n + 1) low) next sets before middle low_cost) where
    pub upper-unread : (f : CertFault) → IsUnread (reading_at s (n + 1) middle.nodes) f → IsUnread (halves_reading s n claim place) f
    upper-unread f unread = (λ some. ap lower_then lower.read ∙ ap (upper_then lower.tree) (unread.0 some), unread.1)

    pub halves-passed : (old : List LabelId) (last new : Walk) (high_cost : ℕ) (o : Option CheckFaultKind)
        (upper : IsPassed s (reading_at s (n + 1) middle.nodes) (fault_of_node (n + 1) high) middle.number middle.sets.items middle.fault last high_cost)
        → IsAscending (length s.limits.labels.now) 0 (numbers own)
        → o ≡ claim_fault claim (exact_claim (claim_with s.limits.labels.now low_cost (numbers lower.set)) (claim_with s.limits.labels.now high_cost (numbers upper.set)))
        → new.nodes ≡ last.nodes → new.number ≡ last.number → new.sets.items ≡ old ++ own → new.fault ≡ option_or last.fault (fault_with number o)
        → IsPassed s (halves_reading s n claim place) (fault_of_node n q) number old before new cost
    halves-passed old last new high_cost o upper ascending fault nodes numbered sets noted = record {
      tree = InnerNode claim lower.tree upper.tree;
      set = own;
      read = ap lower_then lower.read ∙ ap (upper_then lower.tree) upper.read ∙ ap (λ (l : Place). Ok (InnerNode claim lower.tree upper.tree, l)) (sym nodes);
      claim = refl;
      ascending = ascending;
      sets = sets;
      fault = λ k told_is.
          let j = k + 1 + line_count lower.tree in
          let first = lower.fault (k + 1) (after k told_is) in
          let second = upper.fault j (sym first.1) in
          let count : j + line_count upper.tree ≡ k + (1 + line_count lower.tree + line_count upper.tree) = omega arith in
          let exact = exact_claim (claim_of lower.tree) (claim_of upper.tree) in
          let is : o ≡ claim_fault claim exact = fault ∙ sym (λ i. claim_fault claim (exact_claim (lower.claim i) (upper.claim i))) in
          let own_fault = option_map (fault_of_number k) (claim_fault claim exact) in
          let low_fault = λ (o : Origin). fault_of_node (n + 1) low o lower.tree (k + 1) in
          let high_fault = λ (o : Origin). fault_of_node (n + 1) high o upper.tree j in
          let one : n + 1 ≡ suc n = omega arith in (
            λ o' of. noted ∙ (λ i. option_or (second.0 o' of i) (fault_with (sym told_is i) (is i)))
                ∙ (λ i. option_or (option_or (first.0 o' of i) (high_fault o')) own_fault)
                ∙ or-or (option_or before (low_fault o')) (high_fault o') own_fault
                ∙ or-or before (low_fault o') (option_or (high_fault o') own_fault)
                ∙ (λ i. option_or before (option_or (fault_of_node (one i) (low_is i) o' lower.tree (k + 1)) (option_or (fault_of_node (one i) (high_is i) o' upper.tree j) own_fault))),
            numbered ∙ second.1 ∙ ap (λ (j : ℕ). (fault_of_number j BoundNotMet).node) count,
          );
    }

-- A chain whose claim has this cost and the numbers of these labels, at this place after its line. The node at its end
-- was passed, then the fault of the blocks beside its path was noted, and then that of its claim.
module _ (s : Sources) (b end : Block) (cost : ℕ) (own : List LabelId) (bits : List Bool) (side : ℕ) (path : LeadsTo b end bits) (place : Place)
    (number next : ℕ) (after : IsAfter number next) where
  abbrev claim' : Claim
  claim' = claim_with s.limits.labels.now cost (numbers own)

  abbrev text : List ℕ
  text = text_at s.limits.labels.now side

  abbrev sides_of : Origin → Option CheckFaultKind
  sides_of o = sides_fault (map_of o.map) (list_of o.list).prefixes text bits b.len (number_of_block b)

  abbrev then_chain : Read → Read
  then_chain r = r >>= (λ below. Ok (ChainNode claim' bits text below.0, below.1))

  end-at : reading_at s (b.len + length bits) place ≡ reading_at s end.len place
  end-at = ap (λ (m : ℕ). reading_at s m place) (sym path.len)

  pub end-unread : (f : CertFault) → IsUnread (reading_at s end.len place) f → IsUnread (chain_reading s b.len claim' bits side place) f
  end-unread f unread = (λ some. ap then_chain (end-at ∙ unread.0 some), unread.1)

  -- the faults along the bits of the chain, with those of its end
  along : (o : Origin) (tree : Tree) (k : ℕ)
      → bits_fault (map_of o.map) (list_of o.list).prefixes text k (node_fault (map_of o.map) (list_of o.list).prefixes tree (k + 1)) bits b.len (number_of_block b)
      ≡ option_or (fault_of_node end.len (number_of_block end) o tree (k + 1)) (option_map (fault_of_number k) (sides_of o))
  along o tree k =
      let m = map_of o.map in
      let ps = (list_of o.list).prefixes in
      bits-sides m ps text k (node_fault m ps tree (k + 1)) bits b.len (number_of_block b)
      ∙ (λ i. option_or (node_fault m ps tree (k + 1) (sym path.len i) (sym path.number i)) (option_map (fault_of_number k) (sides_of o)))

  pub chain-passed : (sets old : List LabelId) (before : Option CheckFault) (last new : Walk) (end_cost : ℕ) (beside o : Option CheckFaultKind)
      (below : IsPassed s (reading_at s end.len place) (fault_of_node end.len (number_of_block end)) next sets before last end_cost)
      → IsAscending (length s.limits.labels.now) 0 (numbers own)
      → ((o' : Origin) → AreOf o' s → beside ≡ sides_of o')
      → o ≡ claim_fault claim' (chain_claim (length bits) text (claim_with s.limits.labels.now end_cost (numbers below.set)))
      → new.nodes ≡ last.nodes → new.number ≡ last.number → new.sets.items ≡ old ++ own
      → new.fault ≡ option_or (option_or last.fault (fault_with number beside)) (fault_with number o)
      → IsPassed s (chain_reading s b.len claim' bits side place) (fault_of_node b.len (number_of_block b)) number old before new cost
  chain-passed sets old before last new end_cost beside o below ascending sides fault nodes numbered items noted = record {
    tree = ChainNode claim' bits text below.tree;
    set = own;
    read = ap then_chain (end-at ∙ below.read) ∙ ap (λ (l : Place). Ok (ChainNode claim' bits text below.tree, l)) (sym nodes);
    claim = refl;
    ascending = ascending;
    sets = items;
    fault = λ k told_is.
        let there = below.fault (k + 1) (after k told_is) in
        let count : (k + 1) + line_count below.tree ≡ k + (1 + line_count below.tree) = omega arith in
        let is : o ≡ claim_fault claim' (chain_claim (length bits) text (claim_of below.tree)) = fault ∙ sym (λ i. claim_fault claim' (chain_claim (length bits) text (below.claim i))) in
        let at_end = λ (o' : Origin). fault_of_node end.len (number_of_block end) o' below.tree (k + 1) in
        let at_sides = λ (o' : Origin). option_map (fault_of_number k) (sides_of o') in
        let at_claim = option_map (fault_of_number k) (claim_fault claim' (chain_claim (length bits) text (claim_of below.tree))) in (
          λ o' of. noted ∙ (λ i. option_or (option_or (there.0 o' of i) (fault_with (sym told_is i) (sides o' of i))) (fault_with (sym told_is i) (is i)))
              ∙ ap (λ (f : Option CheckFault). option_or f at_claim) (or-or before (at_end o') (at_sides o'))
              ∙ or-or before (option_or (at_end o') (at_sides o')) at_claim
              ∙ ap (λ (f : Option CheckFault). option_or before (option_or f at_claim)) (sym (along o' below.tree k)),
          numbered ∙ there.1 ∙ ap (λ (j : ℕ). (fault_of_number j BoundNotMet).node) count,
        );
  }

-- Pieces of the list of sets.

pub piece : {X : Type 0} (xs before part rest : List X) (i j : ℕ) → xs ≡ before ++ (part ++ rest) → i ≡ length before → j ≡ length before + length part
    → take (j - i) (drop i xs) ≡ part
piece xs before part rest i j e at to =
    let count : j - i ≡ length part = omega (arith, at, to) in
    (λ k. take (count k) (drop (at k) (e k))) ∙ ap (take (length part)) (drop-append_seam before (part ++ rest)) ∙ take-append_seam part rest

-- the set of a node at the end of some sets, and those of two nodes below it after them, the second of which may be empty
module _ (sets mid items low up : List LabelId) (from at_low at_up : ℕ) (within : from ≤ length sets) (mid_is : mid ≡ sets ++ low) (items_is : items ≡ mid ++ up)
    (low_at : at_low ≡ length sets) (up_at : at_up ≡ length mid) where
  all : items ≡ sets ++ (low ++ up)
  all = items_is ∙ ap (λ (ids : List LabelId). ids ++ up) mid_is ∙ append_assoc sets low up

  pub own-piece : take (at_low - from) (drop from items) ≡ drop from sets
  own-piece =
      piece items (take from sets) (drop from sets) (low ++ up) from at_low
      (all ∙ ap (λ (ids : List LabelId). ids ++ (low ++ up)) (sym (take-append-drop from sets)) ∙ append_assoc (take from sets) (drop from sets) (low ++ up))
      (sym (length-take-le from sets within)) (omega (arith, length-take-le from sets within, length-drop from sets, low_at, within))

  pub low-piece : take (at_up - at_low) (drop at_low items) ≡ low
  low-piece =
      piece items sets low up at_low at_up all low_at (up_at ∙ ap (λ (ids : List LabelId). length ids) mid_is ∙ length-append sets low)

  pub up-piece : take (length items - at_up) (drop at_up items) ≡ up
  up-piece =
      piece items mid up [] at_up (length items) (items_is ∙ ap (λ (ids : List LabelId). mid ++ ids) (sym (append-nil up))) up_at
      (ap (λ (ids : List LabelId). length ids) items_is ∙ length-append mid up)

  pub sets-kept : take at_low items ≡ take from sets ++ drop from sets
  sets-kept = (λ i. take (low_at i) (all i)) ∙ take-append_seam sets (low ++ up) ∙ sym (take-append-drop from sets)
