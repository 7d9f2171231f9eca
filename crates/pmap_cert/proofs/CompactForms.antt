-- A compacted certificate has a text if the original has one.
use Rattle.std.proofs.Common.{◌≡◌, ℕ, zero, suc, ◌<◌, inr, arith, length, nat_eq, refl, subst}
use Rattle.std.proofs.lemmas.Bool.{leb-true}
use Rattle.prefix_keys.specs.Block.{width_of}
use Rattle.pmap_cert.specs.CertificateText.{HasChainForm, HasFormatText, HasRoomBelow, place_of}
use Rattle.pmap_cert.specs.Node.{Node}
use Rattle.pmap_cert.specs.CertificateModel.{CertificateModel, ChainNode, ClaimOf, InnerNode, LeafNode, IsPlain, map_tree}
use Rattle.pmap_cert.specs.Compacting.{compact, compacted, compacted_in, line_count, side_of, spine_bits, spine_end}
use Rattle.pmap_cert.proofs.ChainWords.{other-room}
use Rattle.pmap_cert.proofs.Compacts.{by_format}
use Rattle.pmap_cert.proofs.Relabelled.{compacted-places, form-labels, plain-map, side-known}
use Rattle.pmap_cert.proofs.Spines.{by_spine, by_steps, plain-spine}

module _ (count : ℕ) where
  halves-form : (claim : ClaimOf ℕ) (lower upper : Node) (room : ℕ) → HasChainForm count (InnerNode claim lower upper) room →
      (left : ℕ) × (room ≡ suc left) × HasChainForm count lower left × HasChainForm count upper left
  halves-form claim lower upper zero h = absurd h
  halves-form claim lower upper (suc room) h = (room, refl, h.2, h.3)

  -- the end of a spine is well formed in the room that the spine's bits leave
  pub form-spine : (side : ℕ) (t : Node) (room : ℕ) → HasChainForm count t room →
      HasRoomBelow (HasChainForm count (spine_end nat_eq side t)) (spine_bits nat_eq side t) room
  form-spine side t =
      by_steps nat_eq side (λ t bits end. (room : ℕ) → HasChainForm count t room → HasRoomBelow (HasChainForm count end) bits room) (λ t room h. h)
      (λ claim lower upper bits end e below room h. let half = halves-form claim lower upper room h in rw half.1 (below half.0 half.3))
      (λ claim lower upper bits end e below room h. let half = halves-form claim lower upper room h in rw half.1 (below half.0 half.2)) t

  form-in : (steps : ℕ) (t : Node) (room : ℕ) → IsPlain t → HasChainForm count t room → HasChainForm count (compacted_in nat_eq steps t) room
  unfolding compacted_in
  form-in zero t room plain h = h
  form-in (suc steps) (LeafNode x) room plain h = h
  form-in (suc steps) (ChainNode claim bits side end) room plain h = absurd plain
  form-in (suc steps) (InnerNode claim lower upper) zero plain h = absurd h
  form-in (suc steps) (InnerNode claim lower upper) (suc room) plain h =
      let node : Node = InnerNode claim lower upper in
      by_spine nat_eq (compacted_in nat_eq steps) claim lower upper (λ c. HasChainForm count c (suc room)) (side_of lower upper)
      (λ side e long.
      let end : Node = spine_end nat_eq side node in (
        h.0,
        h.1,
        side-known (λ (n : ℕ). n < count) lower upper side (form-labels count lower room h.2) (form-labels count upper room h.3) e,
        omega (arith, leb-true 2 (length (spine_bits nat_eq side node)) long),
        other-room (HasChainForm count end) (HasChainForm count (compacted_in nat_eq steps end))
            (λ left fits. form-in steps end left (plain-spine nat_eq side node plain) fits)
            (spine_bits nat_eq side node) (suc room) (form-spine side node (suc room) h),
      ))
      (λ short. (h.0, h.1, form-in steps lower room plain.0 h.2, form-in steps upper room plain.1 h.3))

  -- a compacted node needs no more room
  pub form-compacted : (node : Node) (room : ℕ) → IsPlain node → HasChainForm count node room → HasChainForm count (compacted nat_eq node) room
  form-compacted node room plain form = form-in (line_count node) node room plain form

-- if a certificate has a text of its format, so has the compacted one
pub compact-text : (c : CertificateModel) → HasFormatText c → HasFormatText (compact c)
compact-text c h =
    by_format c HasFormatText h.format
    (λ first plain. record {
      format = inr refl;
      table = h.table;
      root = subst (λ (node : Node). HasChainForm (length c.table) node (width_of c.version)) (compacted-places c.table h.table c.root (width_of c.version) h.root)
          (form-compacted (length c.table) (map_tree (place_of c.table) c.root) (width_of c.version) (plain-map (place_of c.table) c.root plain) h.root);
    }) (λ second. h)
